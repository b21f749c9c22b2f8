-- The loads so far are counted.
use Rattle.std.proofs.Common.{◌≡◌, ◌≤◌, take}
use Rattle.go_script.specs.Commands.{commands_of}
use Rattle.go_script.specs.Until.{loads_in}
use Rattle.go_run.proofs.starting.loads_of.Given as goal

abbrev pub invariant-loop-at : goal.invariant-loop-at
invariant-loop-at l = (l.count ≡ loads_in (take l.at (commands_of l.script))) × (l.count ≤ l.at)
