-- The scripts so far are summed.
use Rattle.std.proofs.Common.{◌≡◌, ◌≤◌, ◌*◌, ◌^◌, take, sum_by}
use Rattle.go_script.specs.Until.{counted_of, early_puts}
use Rattle.go_script.proofs.SessionLemmas.{Reached}
use Rattle.go_script.proofs.until.total_early.Given as goal

abbrev pub invariant-loop-i : goal.invariant-loop-i
invariant-loop-i l = Reached l.scripts l.loads l.i l.from × (l.total ≡ sum_by early_puts (take l.i (counted_of l.scripts l.loads))) × (l.total ≤ l.i * 2 ^ 64)
