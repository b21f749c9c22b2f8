-- `load_durable`: what the call picks.
use Rattle.go_rule.specs.Views.{frame_of}
use Rattle.go_rule.proofs.loads.load_durable.Given as goal

abbrev pub ghosts-load_durable_as : goal.ghosts-load_durable_as
ghosts-load_durable_as g a = record { frame = frame_of a.ring.now.table.shared.key }
