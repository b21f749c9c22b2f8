-- Ranges that are there: who asks for them makes no blunder.
use Rattle.std.proofs.Common.{◌≡◌, ℕ, ◌+◌, List, ◌∷◌, ◌++◌, length, refl, ap, arith}
use Rattle.std.specs.Prelude.{Option, None, Some, IfSome}
use Rattle.std.proofs.lemmas.List.{length-append}
use Rattle.go_disk.specs.Disk.{StaysTold, blundered}
use Rattle.go_blocks.specs.declared.layout.TheConstants.{CLOSED}
use Rattle.go_blocks.specs.File.{IsClosedBy}
use Rattle.go_durable.specs.Writing.{IsThere}
use Rattle.go_durable.proofs.Gates.{IsBehind, some_not_none}

-- who asks for bytes up to an end that is there makes no blunder
pub there_counts_none : (contents : Option (List ℕ)) (end count : ℕ) → IsThere contents end → blundered contents end count ≡ count
there_counts_none None end count there = refl
there_counts_none (Some bytes) end count there = grind arith

-- the first place is there
pub first_is_there : (contents : Option (List ℕ)) → IsThere contents 0
first_is_there None = tt
first_is_there (Some bytes) = omega arith

-- the place behind a closed gate is there
pub behind_is_there : (front : List ℕ) (contents : Option (List ℕ)) (at : ℕ) → at ≡ length front → IfSome contents (IsClosedBy front)
    → IsThere contents (at + 1)
behind_is_there front None at at_is closed = tt
behind_is_there front (Some bytes) at at_is closed = omega (arith, at_is, ap length closed.parts, length-append front (CLOSED ∷ closed.rest))

-- the gate in front of a body is there
pub gate_is_there : (front inner : List ℕ) (end at : ℕ) (old new : Option (List ℕ)) → at ≡ length front → StaysTold (IsBehind front inner end) old new
    → IsThere new at
gate_is_there front inner end at None None at_is behind = tt
gate_is_there front inner end at None (Some new) at_is behind = absurd (some_not_none new behind)
gate_is_there front inner end at (Some old) None at_is behind = tt
gate_is_there front inner end at (Some old) (Some new) at_is behind =
    omega (arith, at_is, ap length behind.parts, length-append front (CLOSED ∷ (inner ++ CLOSED ∷ behind.rest)))
