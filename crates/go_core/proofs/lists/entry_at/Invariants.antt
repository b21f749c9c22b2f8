-- `entry_at`: what is found in the rest is what is found at all.
use Rattle.std.proofs.Common.{◌≡◌, length}
use Rattle.std.specs.Prelude.{find}
use Rattle.go_core.specs.View.{stands_at}
use Rattle.go_core.proofs.lists.entry_at.Given as goal

abbrev pub invariant-loop-entry : goal.invariant-loop-entry
invariant-loop-entry l = find (stands_at l.at) l.rest ≡ find (stands_at l.at) l.list

abbrev pub decreases-loop-entry : goal.decreases-loop-entry
decreases-loop-entry l = length l.rest
