-- How many vertices are at each level from a root after a log.
use Rattle.std.specs.Prelude.{◌≡◌, ℕ, ◌+◌, ◌<◌, ◌≤◌, Bool, false, ◌==◌, List, get_or, length, Option, Some, None, is_none, All, count_by}
use Rattle.go_word.specs.declared.edge.Edge.{Edge}
use Rattle.go_model.specs.Levels.{AreLevels}

-- a vertex is at this level
abbrev pub is_at : ℕ → Option ℕ → Bool
is_at level None = false
is_at level (Some n) = n == level

-- these are the numbers of vertices at each level up to the greatest one that is reached, and of those that are not reached
pub record AreCountsOf (levels : List (Option ℕ)) (counts : List ℕ) (unreached : ℕ) : Type 0 where
  pub each : (n : ℕ) → get_or counts n 0 ≡ count_by (is_at n) levels
  pub some : All (λ count. 1 ≤ count) counts
  pub never : unreached ≡ count_by is_none levels

-- where a level is reached, so is the one before it
abbrev pub IsFull : List (Option ℕ) → Type 0
IsFull levels = (v n : ℕ) → get_or levels v None ≡ Some (n + 1) → (u : ℕ) × (get_or levels u None ≡ Some n)

-- how many vertices below a number are at each level from r, up to the greatest one that is reached, and how many are not reached
pub record AreCounts (log : List Edge) (size r : ℕ) (counts : List ℕ) (unreached : ℕ) : Type 0 where
  pub levels : List (Option ℕ)
  pub are_levels : AreLevels log size r levels
  pub are_counts : AreCountsOf levels counts unreached
