-- `load_in_turn`: what the call picks.
use Rattle.go_ring.proofs.ordered.load_in_turn.Given as goal

abbrev pub ghosts-load_in_turn_as : goal.ghosts-load_in_turn_as
ghosts-load_in_turn_as g a = record { at = a.at; slots = a.ring.now.slots }
