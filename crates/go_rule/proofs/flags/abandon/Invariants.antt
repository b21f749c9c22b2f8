-- `abandon`: what the call picks.
use Rattle.go_rule.proofs.flags.abandon.Given as goal

abbrev pub ghosts-abandon_as : goal.ghosts-abandon_as
ghosts-abandon_as g a = record { entry = a.entry }
