-- What the tests ask of a seat.
use Rattle.std.specs.Prelude.{◌≡◌, ℕ, ◌+◌, ◌≤◌, true, [], ◌∷◌}
use Rattle.atomic_table.specs.Table.{Me}
use Rattle.go_core.specs.declared.entry.Entry.{Entry}
use Rattle.go_shard.specs.ShardState.{ShardState, IsOf, Keeps}
use Rattle.go_rule.specs.declared.view.SeatView.{SeatView}

-- a seat may take the archiver's turn with so much room
pub record MayArchive {P : Type 0} (room : ℕ) (d : SeatView P) : Type 0 where
  pub archives : d.core.archives ≡ true
  pub fits : d.core.taken ≤ d.core.archived + room

-- a seat has still so much quota, and its lot
pub record HasShare {P : Type 0} (quota lot : ℕ) (d : SeatView P) : Type 0 where
  pub quota_is : d.share.quota ≡ quota
  pub lot_is : d.share.lot ≡ lot

-- a shard tells of a vertex at its front
pub record IsListable (v : ℕ) (shard : ShardState) : Type 0 where
  pub own : IsOf shard v
  pub kept : Keeps shard shard.front
  pub uncut : shard.cut ≤ shard.front

module _ {P S : Type 0} where
  -- a seat owes no word, and has no part in its hand
  pub record HasNothing (me : Me S (SeatView P)) : Type 0 where
    pub pending : me.0.core.pending ≡ []
    pub notes : me.0.stake.notes ≡ []
    pub slots : me.1 ≡ []

  -- a seat owes the word of an entry, and has no part in its hand
  pub record Owes (entry : Entry) (me : Me S (SeatView P)) : Type 0 where
    pub pending : me.0.core.pending ≡ entry ∷ []
    pub notes : me.0.stake.notes ≡ []
    pub slots : me.1 ≡ []
