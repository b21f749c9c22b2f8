-- The loop of `block_of`.
use Rattle.std.proofs.Common.{◌-◌}
use Rattle.go_durable.proofs.Ranges.{IsBetween}
use Rattle.go_durable.proofs.finding.block_of.Given as goal

-- the block with the entry is one of these
abbrev pub invariant-loop-low : goal.invariant-loop-low
invariant-loop-low l = IsBetween l.places l.entry l.low l.high

abbrev pub decreases-loop-low : goal.decreases-loop-low
decreases-loop-low l = l.high - l.low
