-- The loop of `append`.
use Rattle.std.proofs.Common.{◌≤◌}
use Rattle.go_bench.proofs.durable.append.Given as goal

-- no more is left than there was
abbrev pub invariant-loop-left : goal.invariant-loop-left
invariant-loop-left l = l.left ≤ l.entries

abbrev pub decreases-loop-left : goal.decreases-loop-left
decreases-loop-left l = l.left
