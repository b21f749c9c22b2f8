-- `compact_often`: what remains of the seat.
use Rattle.std.proofs.Common.{◌≡◌}
use Rattle.go_workers.specs.Samples.{HasNothing}
use Rattle.go_workers.proofs.thread_tests.compact_often.Given as goal

abbrev pub invariant-loop-left : goal.invariant-loop-left
invariant-loop-left g l =
    (l.seat.table_id ≡ l.fn.seat.table_id) × (l.seat.me.0.core.live ≡ l.fn.seat.me.0.core.live) × HasNothing l.seat.me
    × (l.seat.me.0.share ≡ l.fn.seat.me.0.share)

abbrev pub decreases-loop-left : goal.decreases-loop-left
decreases-loop-left g l = l.left
