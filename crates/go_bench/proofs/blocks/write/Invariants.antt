-- The loop of `write`.
use Rattle.std.proofs.Common.{◌≤◌, vec_len}
use Rattle.go_bench.proofs.blocks.write.Given as goal

-- there is a last gate
abbrev pub invariant-loop-left : goal.invariant-loop-left
invariant-loop-left l = record { gate : 1 ≤ vec_len l.bytes; within : l.left ≤ l.entries }

abbrev pub decreases-loop-left : goal.decreases-loop-left
decreases-loop-left l = l.left
