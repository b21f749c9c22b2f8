-- What the tests ask of a seat.
use Rattle.std.specs.Prelude.{◌≡◌, ℕ, ◌≤◌, true, [], ◌∷◌, length}
use Rattle.atomic_table.specs.Table.{Me}
use Rattle.go_rule.specs.declared.view.SeatView.{SeatView}

-- a seat owes no word, has no part in its hand, and has so much of the lot
pub record IsIdle {P S : Type 0} (lot : ℕ) (me : Me S (SeatView P)) : Type 0 where
  pub pending : me.0.core.pending ≡ []
  pub notes : me.0.stake.notes ≡ []
  pub slots : me.1 ≡ []
  pub lot_is : me.0.share.lot ≡ lot

-- a seat has no part in its hand
pub record IsFree {P S : Type 0} (me : Me S (SeatView P)) : Type 0 where
  pub notes : me.0.stake.notes ≡ []
  pub slots : me.1 ≡ []

-- a seat moves the archived front, which it knows at the beginning, took so many entries, and has seen these
pub record IsArchiver {P : Type 0} (taken : ℕ) (d : SeatView P) : Type 0 where
  pub archives : d.core.archives ≡ true
  pub archived : d.core.archived ≡ 0
  pub taken_is : d.core.taken ≡ taken
  pub seen : taken ≤ length d.told.seen

-- a seat knows of one part more that it stood at 1
abbrev pub KnowsOf : {P : Type 0} → ℕ → SeatView P → SeatView P → Type 0
KnowsOf place before now = now.stake.stood ≡ record { place = place; front = 1 } ∷ before.stake.stood
