-- `store`: what the call picks.
use Rattle.go_ring.proofs.stores.store.Given as goal

abbrev pub ghosts-store_as : goal.ghosts-store_as
ghosts-store_as g a = record { entry = a.entry }
