-- The loop of `collect_front`.
use Rattle.go_model.specs.Search.{IsFrontBelow}
use Rattle.go_model.proofs.levels.collect_front.Given as goal

-- the vertices so far that are at the level
abbrev pub invariant-loop-v : goal.invariant-loop-v
invariant-loop-v l = IsFrontBelow l.levels l.level l.v l.front.items
