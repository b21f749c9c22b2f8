-- `load_archived`: what the call picks.
use Rattle.go_rule.specs.Views.{frame_of}
use Rattle.go_rule.proofs.loads.load_archived.Given as goal

abbrev pub ghosts-load_archived_as : goal.ghosts-load_archived_as
ghosts-load_archived_as g a = record { frame = frame_of a.ring.now.table.shared.key }
