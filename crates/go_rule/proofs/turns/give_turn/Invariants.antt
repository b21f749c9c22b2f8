-- `give_turn`: what the call picks.
use Rattle.go_rule.specs.Views.{frame_of}
use Rattle.go_rule.proofs.turns.give_turn.Given as goal

abbrev pub ghosts-give_turn_as : goal.ghosts-give_turn_as
ghosts-give_turn_as g a = record { frame = frame_of a.ring.now.table.shared.key; place = a.place }
