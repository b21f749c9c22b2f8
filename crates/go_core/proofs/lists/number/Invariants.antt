-- `number`: what is listed are the edges so far.
use Rattle.std.proofs.Common.{◌≡◌, ◌+◌, take}
use Rattle.go_core.specs.View.{numbered}
use Rattle.go_core.proofs.lists.number.Given as goal

abbrev pub invariant-loop-edge : goal.invariant-loop-edge
invariant-loop-edge l = (l.list ≡ numbered l.first (take l.edge-index l.edges)) × (l.at ≡ l.first + l.edge-index)
