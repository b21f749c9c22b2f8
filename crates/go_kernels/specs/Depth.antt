-- How deep a search went, and how many vertices it found at each level.
use Rattle.std.specs.Prelude.{◌≡◌, ℕ, ◌+◌, ◌<◌, List, get_or, count_by, Option, Some, None, is_none}
use Rattle.go_model.specs.Counts.{is_at}

-- each level is below this number, and the one just below it is reached
pub record IsDepth (levels : List (Option ℕ)) (depth : ℕ) : Type 0 where
  pub below : (v n : ℕ) → get_or levels v None ≡ Some n → n < depth
  pub last : (n : ℕ) → n + 1 ≡ depth → (v : ℕ) × (get_or levels v None ≡ Some n)

-- these are the numbers of those at each level, and of those that have none
pub record AreCounted (levels : List (Option ℕ)) (counts : List ℕ) (unreached : ℕ) : Type 0 where
  pub each : (n : ℕ) → get_or counts n 0 ≡ count_by (is_at n) levels
  pub never : unreached ≡ count_by is_none levels
