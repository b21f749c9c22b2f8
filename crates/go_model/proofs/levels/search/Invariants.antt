-- The loop of `search`: it goes on as long as a vertex is marked, so no more often than there are vertices.
use Rattle.std.proofs.Common.{◌≡◌, ◌≢◌, ℕ, ◌+◌, ◌<◌, ◌≤◌, false, length, get_or}
use Rattle.std.specs.Prelude.{if◌then◌else◌, Some, None}
use Rattle.go_model.specs.Search.{unmarked}
use Rattle.go_model.proofs.LevelLemmas.{AreLevelsTo}
use Rattle.go_model.proofs.levels.search.Given as goal

-- the levels so far, and how many vertices are left
abbrev pub invariant-loop-more : goal.invariant-loop-more
invariant-loop-more l = record {
  so_far : AreLevelsTo l.edges (length l.levels) l.r l.level l.levels;
  left : l.level + unmarked l.levels + (if l.more then 1 else 0) ≤ (length l.levels);
  empty : l.more ≡ false → (v : ℕ) → v < (length l.levels) → get_or l.levels v None ≢ Some l.level;
}

abbrev pub decreases-loop-more : goal.decreases-loop-more
decreases-loop-more l = unmarked l.levels + (if l.more then 1 else 0)
