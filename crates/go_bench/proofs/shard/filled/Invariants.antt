-- The loop of `filled`.
use Rattle.std.proofs.Common.{◌-◌, ◌≤◌}
use Rattle.go_bench.specs.Filled.{IsFilled}
use Rattle.go_bench.proofs.shard.filled.Given as goal

-- the edges so far are in the shard
abbrev pub invariant-loop-left : goal.invariant-loop-left
invariant-loop-left l = record { within : l.left ≤ l.entries; filled : IsFilled (l.entries - l.left) l.shard }

abbrev pub decreases-loop-left : goal.decreases-loop-left
decreases-loop-left l = l.left
