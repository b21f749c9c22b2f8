-- `fill`: the claim that came back is still owed.
use Rattle.std.proofs.Common.{◌≡◌}
use Rattle.go_ring.proofs.Puts.{Remains}
use Rattle.go_bench.proofs.ring_puts.fill.Given as goal

abbrev pub invariant-loop-left : goal.invariant-loop-left
invariant-loop-left l =
    (l.seat.table_id ≡ l.initial.seat.table_id) × Remains l.initial.seat.me.0 l.seat.me.0 × (l.seat.me.0.core.pending ≡ l.initial.seat.me.0.core.pending)
    × (l.claim ≡ l.initial.claim)

abbrev pub decreases-loop-left : goal.decreases-loop-left
decreases-loop-left l = l.left
