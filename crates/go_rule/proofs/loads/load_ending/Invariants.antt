-- `load_ending`: what the call picks.
use Rattle.go_rule.specs.Views.{frame_of}
use Rattle.go_rule.proofs.loads.load_ending.Given as goal

abbrev pub ghosts-load_ending_as : goal.ghosts-load_ending_as
ghosts-load_ending_as g a = record { frame = frame_of a.ring.now.table.shared.key; end = a.end }
