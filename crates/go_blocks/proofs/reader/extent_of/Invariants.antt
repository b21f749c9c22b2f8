-- The loop of `extent_of`.
use Rattle.std.proofs.Common.{◌+◌, ◌*◌, ◌≤◌, length}
use Rattle.go_blocks.proofs.reader.extent_of.Given as goal

-- what was counted stands in front of the rest
abbrev pub invariant-loop-count : goal.invariant-loop-count
invariant-loop-count l = 8 * l.extent.entries + l.extent.blocks + length l.rest ≤ length l.bytes

abbrev pub decreases-loop-count : goal.decreases-loop-count
decreases-loop-count l = length l.rest
