-- `own_archived`: what the call picks.
use Rattle.go_rule.specs.Views.{frame_of}
use Rattle.go_workers.proofs.own_fronts.own_archived.Given as goal

abbrev pub ghosts-own_archived_as : goal.ghosts-own_archived_as
ghosts-own_archived_as g a = record { frame = frame_of a.ring.now.table.shared.key }
