-- `load_ordered`: what the call picks.
use Rattle.go_rule.proofs.workers.load_ordered.Given as goal

abbrev pub ghosts-load_ordered_as : goal.ghosts-load_ordered_as
ghosts-load_ordered_as g a = record { at = a.at; slots = a.ring.now.slots }
