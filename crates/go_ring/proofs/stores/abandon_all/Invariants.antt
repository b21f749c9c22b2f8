-- `abandon_all`: the entries before the place are given up, and the others are still owed.
use Rattle.std.proofs.Common.{◌≡◌, ◌-◌, ◌≤◌, length}
use Rattle.go_rule.specs.Views.{with_abandoned}
use Rattle.go_ring.proofs.Fills.{Doing, SameFlag}
use Rattle.go_ring.proofs.stores.abandon_all.Given as goal

abbrev pub invariant-loop-done : goal.invariant-loop-done
invariant-loop-done g l =
    (l.seat.table_id ≡ l.initial.seat.table_id) × (l.seat.id ≡ l.initial.seat.id) × (l.seat.me.1 ≡ l.initial.seat.me.1)
    × Doing with_abandoned (SameFlag l.initial.seat.me.0) l.first l.edges l.initial.seat.me.0 l.seat.me.0 l.done × (l.done ≤ length l.edges)

abbrev pub decreases-loop-done : goal.decreases-loop-done
decreases-loop-done g l = length l.edges - l.done
