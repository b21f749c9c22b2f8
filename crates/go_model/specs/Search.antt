-- The marks of a search that goes level by level. Contracts of private functions cite them.
use Rattle.std.specs.Prelude.{◌≡◌, ℕ, ◌<◌, List, length, get_or, set, fold, count_by, Option, Some, None, is_none, Contains, if◌then◌else◌}
use Rattle.go_word.specs.declared.edge.Edge.{Edge}
use Rattle.go_word.specs.Neighbours.{neighbours}

-- a vertex without a level gets this one
abbrev pub mark : ℕ → List (Option ℕ) → ℕ → List (Option ℕ)
mark level levels v = if is_none (get_or levels v None) then set levels v (Some level) else levels

-- so do the neighbours of a vertex
abbrev pub mark_from : List Edge → ℕ → List (Option ℕ) → ℕ → List (Option ℕ)
mark_from log level levels v = fold (mark level) levels (neighbours log v)

-- and those of all vertices of a front
abbrev pub spread : List Edge → ℕ → List (Option ℕ) → List ℕ → List (Option ℕ)
spread log level levels front = fold (mark_from log level) levels front

-- how many vertices have no level
abbrev pub unmarked : List (Option ℕ) → ℕ
unmarked levels = count_by is_none levels

-- a list has the vertices below an end that are at a level
pub record IsFrontBelow (levels : List (Option ℕ)) (level end : ℕ) (front : List ℕ) : Type 0 where
  pub within : (v : ℕ) → Contains front v → v < end
  pub there : (v : ℕ) → Contains front v → get_or levels v None ≡ Some level
  pub all : (v : ℕ) → v < end → get_or levels v None ≡ Some level → Contains front v

-- a list has all vertices at a level
abbrev pub IsFront : List (Option ℕ) → ℕ → List ℕ → Type 0
IsFront levels level front = IsFrontBelow levels level (length levels) front
