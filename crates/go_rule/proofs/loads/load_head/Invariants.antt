-- `load_head`: what the call picks.
use Rattle.go_rule.specs.Views.{frame_of}
use Rattle.go_rule.proofs.loads.load_head.Given as goal

abbrev pub ghosts-load_head_as : goal.ghosts-load_head_as
ghosts-load_head_as g a = record { frame = frame_of a.ring.now.table.shared.key }
