-- The scripts so far, and the lists so far, are counted.
use Rattle.std.proofs.Common.{◌≡◌, ◌≤◌, ◌+◌, ◌*◌, take}
use Rattle.std.specs.Prelude.{sum, sum_by}
use Rattle.go_run.specs.Judged.{singles_in}
use Rattle.go_run.specs.declared.limits.TheConstants.{TEXT_BYTES}
use Rattle.go_run.proofs.judging.count_puts.Given as goal

abbrev pub invariant-loop-i : goal.invariant-loop-i
invariant-loop-i l = (l.count ≡ sum_by singles_in (take l.i l.scripts)) × (l.count ≤ l.i * (TEXT_BYTES + 1))

abbrev pub invariant-loop-entries : goal.invariant-loop-entries
invariant-loop-entries l = (l.count ≡ sum_by singles_in l.scripts + sum (take l.entries-index l.counts)) × (sum_by singles_in l.scripts ≤ 8 * (TEXT_BYTES + 1))
