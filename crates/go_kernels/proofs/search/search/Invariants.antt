-- The loop of `search`: each front that isn't empty leaves fewer vertices without a level.
use Rattle.std.proofs.Common.{◌+◌, ◌≤◌, length}
use Rattle.go_model.specs.Graph.{Keeps}
use Rattle.go_model.specs.Search.{unmarked, IsFront}
use Rattle.go_model.proofs.LevelLemmas.{AreLevelsTo}
use Rattle.go_kernels.proofs.search.search.Given as goal

-- the levels so far, the vertices at the last one, and how many are left
abbrev pub invariant-loop-level : goal.invariant-loop-level
invariant-loop-level g l =
    let graph = g.G.Graph in
    record {
      keeps : Keeps graph.shows graph.ready graph.became l.fn.g l.g;
      so_far : AreLevelsTo (graph.shows l.fn.g).log (length l.levels) l.r l.level l.levels;
      front : IsFront l.levels l.level l.front.items;
      left : l.level + unmarked l.levels + length l.front.items ≤ length l.levels;
    }

abbrev pub decreases-loop-level : goal.decreases-loop-level
decreases-loop-level g l = unmarked l.levels + length l.front.items
