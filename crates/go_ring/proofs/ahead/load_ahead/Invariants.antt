-- `load_ahead`: what the call picks.
use Rattle.go_ring.proofs.ahead.load_ahead.Given as goal

abbrev pub ghosts-load_ahead_as : goal.ghosts-load_ahead_as
ghosts-load_ahead_as g a = record { at = a.at; slots = a.ring.now.slots }
