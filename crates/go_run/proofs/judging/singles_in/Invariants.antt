-- The commands so far are counted.
use Rattle.std.proofs.Common.{◌≡◌, ◌≤◌, take}
use Rattle.std.specs.Prelude.{count_by}
use Rattle.go_script.specs.Commands.{commands_of, put_by}
use Rattle.go_run.specs.Judged.{is_single}
use Rattle.go_run.proofs.judging.singles_in.Given as goal

abbrev pub invariant-loop-at : goal.invariant-loop-at
invariant-loop-at l = (l.count ≡ count_by (λ c. is_single (put_by c)) (take l.at (commands_of l.script))) × (l.count ≤ l.at)
