-- The loop of `least_of`.
use Rattle.std.proofs.Common.{take}
use Rattle.go_shard.specs.Fronts.{IsLeast}
use Rattle.go_shard.proofs.pins.least_of.Given as goal

-- the least front of the pins so far
abbrev pub invariant-loop-pin : goal.invariant-loop-pin
invariant-loop-pin l = IsLeast (take l.pin-index l.pins) l.limit l.least
