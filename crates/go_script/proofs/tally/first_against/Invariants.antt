-- No command so far asks for too much.
use Rattle.std.proofs.Common.{◌-◌, length}
use Rattle.go_script.specs.Commands.{commands_of}
use Rattle.go_script.proofs.UntilLemmas.{JudgedTo}
use Rattle.go_script.proofs.tally.first_against.Given as goal

abbrev pub invariant-loop-tally : goal.invariant-loop-tally
invariant-loop-tally l = JudgedTo (commands_of l.script) l.files l.others l.tally

abbrev pub decreases-loop-tally : goal.decreases-loop-tally
decreases-loop-tally l = length l.script - l.tally.at
