-- `store_all`: the entries before the place are stored, and the others are still owed.
use Rattle.std.proofs.Common.{◌≡◌, ◌+◌, ◌-◌, ◌≤◌, length}
use Rattle.go_rule.specs.Views.{frame_of, with_stored}
use Rattle.go_ring.specs.Cursors.{IsCursorAt}
use Rattle.go_ring.proofs.Fills.{Doing, SameFronts}
use Rattle.go_ring.proofs.stores.store_all.Given as goal

abbrev pub invariant-loop-done : goal.invariant-loop-done
invariant-loop-done g l =
    (l.seat.table_id ≡ l.initial.seat.table_id) × (l.seat.id ≡ l.initial.seat.id) × (l.seat.me.1 ≡ l.initial.seat.me.1)
    × Doing with_stored (SameFronts l.initial.seat.me.0) l.first l.edges l.initial.seat.me.0 l.seat.me.0 l.done × (l.done ≤ length l.edges)
    × IsCursorAt (frame_of l.ring.table.shared.key) (l.first + l.done) l.cursor

abbrev pub decreases-loop-done : goal.decreases-loop-done
decreases-loop-done g l = length l.edges - l.done
