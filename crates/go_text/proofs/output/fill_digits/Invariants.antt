-- The digits written so far follow those of what is left of the number.
use Rattle.std.proofs.Common.{◌≡◌, ◌≤◌, ◌++◌, length, drop, decimal}
use Rattle.go_text.proofs.output.fill_digits.Given as goal

abbrev pub invariant-loop-rest : goal.invariant-loop-rest
invariant-loop-rest l = (l.start ≤ 20) × (length l.digits ≡ 20) × (decimal l.n ≡ decimal l.rest ++ drop l.start l.digits)

abbrev pub decreases-loop-rest : goal.decreases-loop-rest
decreases-loop-rest l = l.rest
