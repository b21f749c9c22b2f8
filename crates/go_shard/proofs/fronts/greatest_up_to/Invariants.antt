-- The loop of `greatest_up_to`.
use Rattle.std.proofs.Common.{take}
use Rattle.go_shard.specs.Fronts.{IsGreatest}
use Rattle.go_shard.proofs.fronts.greatest_up_to.Given as goal

-- the greatest front of the ranges so far
abbrev pub invariant-loop-range : goal.invariant-loop-range
invariant-loop-range l = IsGreatest (take l.range-index l.ranges) l.least l.bound l.greatest
