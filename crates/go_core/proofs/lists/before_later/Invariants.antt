-- `before_later`: those that were passed at the end come after the position.
use Rattle.std.proofs.Common.{◌≡◌, ◌≤◌, length}
use Rattle.go_core.specs.View.{before_later}
use Rattle.go_core.proofs.lists.before_later.Given as goal

abbrev pub invariant-loop-entry : goal.invariant-loop-entry
invariant-loop-entry l = (l.place ≡ length l.rest) × (l.place ≤ length l.list) × (before_later l.at l.rest ≡ before_later l.at l.list)

abbrev pub decreases-loop-entry : goal.decreases-loop-entry
decreases-loop-entry l = length l.rest
