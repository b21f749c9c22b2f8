-- What a part means to the rule, as one record.
use Rattle.std.specs.Prelude.{ℕ, List, ◌++◌}
use Rattle.go_word.specs.declared.edge.Edge.{Edge}
use Rattle.go_core.specs.declared.part.Part.{Ghosts}
use Rattle.go_core.specs.declared.part.PartState.{PartState}
use Rattle.go_core.specs.Parts.{Mark}

-- the meanings of `trait Part`
pub record Meaning (P : Type 0) : Type 1 where
  pub state_of : P → PartState
  pub stands_for : P → ℕ → List Edge → Type 0
  pub fits : P → ℕ → ℕ → ℕ → Type 0
  pub keeps : P → ℕ → Type 0
  pub is_spent : P → Type 0
  pub mark_of : P → Mark
  pub recovers : P → List Edge → ℕ → ℕ → Mark → Type 0

-- those of a type that is a part
abbrev pub meaning : {P : Type 0} → Ghosts P → Meaning P
meaning part = record {
  state_of = part.state_of;
  stands_for = part.stands_for;
  fits = part.fits;
  keeps = part.keeps;
  is_spent = part.is_spent;
  mark_of = part.mark_of;
  recovers = part.recovers;
}

-- the two laws that each part proves: what it stands for over a log, and what its images recover to, it does over each longer one
pub record IsLasting {P : Type 0} (m : Meaning P) : Type 0 where
  pub stands_on : (part : P) (first : ℕ) (log more : List Edge) → m.stands_for part first log → m.stands_for part first (log ++ more)
  pub recovers_on : (part : P) (log more : List Edge) (vertices first : ℕ) (mark : Mark) → m.recovers part log vertices first mark
      → m.recovers part (log ++ more) vertices first mark
