-- What a worker learns of a run of entries that it reads in their turn.
use Rattle.std.specs.Prelude.{◌≡◌, ◌⊎◌, ℕ, ◌+◌, ◌^◌, ◌<◌, ◌≤◌, ◌==◌, max, true, false, if◌then◌else◌, List, [], length, All}
use Rattle.atomic_table.specs.Table.{Step, Me}
use Rattle.go_word.specs.declared.edge.Edge.{Edge}
use Rattle.go_word.specs.Word.{is_matched}
use Rattle.go_core.specs.Rule.{IsOf}
use Rattle.go_core.specs.View.{numbered}
use Rattle.go_rule.specs.declared.view.SeatView.{SeatView}
use Rattle.go_rule.specs.Rule.{IsBelow}
use Rattle.go_rule.specs.Views.{with_unmoved}
use Rattle.go_rule.specs.Steps.{Becomes, SeesOn, Took}

-- the word of a position was read in its turn and isn't matched: the position is past all that the seat had seen, and had taken
pub record IsUnwritten {P : Type 0} (slots : ℕ) (d : SeatView P) (p : ℕ) : Type 0 where
  pub word : ℕ
  pub unmatched : is_matched slots p word ≡ false
  pub unseen : d.core.seen ≤ p
  pub untaken : d.core.taken ≤ p

-- why a run of so many entries is no longer: no more fit, or the word of the next position isn't there yet
abbrev pub IsLongest : {P : Type 0} → ℕ → ℕ → SeatView P → ℕ → ℕ → Type 0
IsLongest slots room d from count = (count ≡ room) ⊎ IsUnwritten slots d (from + count)

-- all up to n is seen and taken
abbrev pub with_run : {P : Type 0} → ℕ → List Edge → SeatView P → SeatView P
with_run n seen d = record d {
  core = record d.core { seen = max d.core.seen n; taken = max d.core.taken n; fresh = false };
  told = record d.told { seen = seen };
}

module _ {P S : Type 0} where
  -- the position's word n is matched, and the seat has taken its entry; or it isn't, and the position is past all that the seat has seen and taken
  abbrev pub ReadsInTurn : ℕ → ℕ → Step S → Me S (SeatView P) → ℕ → Me S (SeatView P) → Type 0
  ReadsInTurn slots p step me n now =
      ((is_matched slots p n ≡ true) × Took p me n now)
      ⊎ ((is_matched slots p n ≡ false) × (me.0.core.seen ≤ p) × (me.0.core.taken ≤ p) × Becomes (with_unmoved me.0) me now)

  -- the entries from a position on were read in their turn: they are those that were seen there, between vertices of the graph
  pub record Takes (from : ℕ) (es : List Edge) (me now : Me S (SeatView P)) : Type 0 where
    pub seen : List Edge
    pub becomes : now ≡ (with_run (from + length es) seen me.0, me.1)
    pub sees : SeesOn me.0.told.seen seen me.0.core.seen (from + length es)
    pub entries : All (IsOf seen) (numbered from es)
    pub below : All (IsBelow me.0.about.vertices) es
    pub small : from + length es < 2 ^ 32

  -- a run of entries, or none: where there was no room nothing was done, and else one word was read that wasn't matched
  abbrev pub TakeIs : ℕ → ℕ → List Edge → Me S (SeatView P) → Me S (SeatView P) → Type 0
  TakeIs from room es me now =
      ((es ≡ []) × (now ≡ (if room == 0 then me else (with_unmoved me.0, me.1)))) ⊎ ((1 ≤ length es) × Takes from es me now)
