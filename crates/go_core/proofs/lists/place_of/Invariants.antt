-- `place_of`: no entry so far stands at the position.
use Rattle.std.proofs.Common.{◌≡◌, ◌++◌, take, length}
use Rattle.go_core.specs.View.{without}
use Rattle.go_core.proofs.ListLemmas.{Through}
use Rattle.go_core.proofs.lists.place_of.Given as goal

abbrev pub invariant-loop-entry : goal.invariant-loop-entry
invariant-loop-entry l = Through l.list l.rest l.place × (without l.at l.list ≡ take l.place l.list ++ without l.at l.rest)

abbrev pub decreases-loop-entry : goal.decreases-loop-entry
decreases-loop-entry l = length l.rest
