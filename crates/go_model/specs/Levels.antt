-- How far a vertex is from another one after a log.
use Rattle.std.specs.Prelude.{◌≡◌, ℕ, zero, suc, ◌<◌, ◌≤◌, List, length, get_or, Option, Some, None, Contains}
use Rattle.go_word.specs.declared.edge.Edge.{Edge}
use Rattle.go_word.specs.Neighbours.{neighbours}

-- an edge leads from a to b
abbrev pub Leads : List Edge → ℕ → ℕ → Type 0
Leads log a b = Contains (neighbours log a) b

-- there is a walk of n edges from a to b: its last edge leads to b
abbrev pub Walk : List Edge → ℕ → ℕ → ℕ → Type 0
Walk log a b zero = a ≡ b
Walk log a b (suc n) = (c : ℕ) × Walk log a c n × Leads log c b

-- a walk from r to v has n edges, and none has fewer
pub record IsLeast (log : List Edge) (r v n : ℕ) : Type 0 where
  pub walk : Walk log r v n
  pub least : (m : ℕ) → Walk log r v m → n ≤ m

-- the level of v from r: the least number of edges of a walk from r to v, and none where there is no walk
abbrev pub IsLevel : List Edge → ℕ → ℕ → Option ℕ → Type 0
IsLevel log r v (Some n) = IsLeast log r v n
IsLevel log r v None = (m : ℕ) → Walk log r v m → ⊥

-- a list has the level from r of each vertex below a number, at its place
pub record AreLevels (log : List Edge) (size r : ℕ) (levels : List (Option ℕ)) : Type 0 where
  pub all : length levels ≡ size
  pub each : (v : ℕ) → v < size → IsLevel log r v (get_or levels v None)
