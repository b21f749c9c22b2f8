-- No command so far waits.
use Rattle.std.proofs.Common.{◌-◌, length}
use Rattle.go_script.specs.Commands.{commands_of}
use Rattle.go_script.proofs.UntilLemmas.{WalksTo}
use Rattle.go_script.proofs.tally.before_wait.Given as goal

abbrev pub invariant-loop-tally : goal.invariant-loop-tally
invariant-loop-tally l = WalksTo (commands_of l.script) l.files l.tally

abbrev pub decreases-loop-tally : goal.decreases-loop-tally
decreases-loop-tally l = length l.script - l.tally.at
