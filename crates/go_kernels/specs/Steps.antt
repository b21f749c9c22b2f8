-- The step of a search that keeps the vertices that it marks.
use Rattle.std.specs.Prelude.{◌≡◌, ℕ, ◌+◌, List, length, Option}
use Rattle.go_model.specs.Search.{unmarked, IsFront}

-- some vertices were marked: where a list had those at the level before, it has them after, and it is as much longer as fewer are left
pub record KeepsFront (level : ℕ) (before after : List (Option ℕ)) (old new : List ℕ) : Type 0 where
  pub front : IsFront before level old → IsFront after level new
  pub counted : length new + unmarked after ≡ length old + unmarked before
