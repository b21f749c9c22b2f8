-- `flush_all`: what remains of the seat.
use Rattle.std.proofs.Common.{◌≡◌, true, length}
use Rattle.go_workers.specs.Samples.{HasNothing}
use Rattle.go_workers.proofs.thread_tests.flush_all.Given as goal

abbrev pub invariant-loop-left : goal.invariant-loop-left
invariant-loop-left g l =
    (l.seat.table_id ≡ l.fn.seat.table_id) × (l.seat.me.0.core.live ≡ l.fn.seat.me.0.core.live) × HasNothing l.seat.me
    × (l.seat.me.0.core.flushes ≡ true) × (l.seat.me.0.share ≡ l.fn.seat.me.0.share) × (length l.buf ≡ 128)

abbrev pub decreases-loop-left : goal.decreases-loop-left
decreases-loop-left g l = l.left
