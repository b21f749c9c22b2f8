-- `archive_all`: what remains of the seat.
use Rattle.std.proofs.Common.{◌≡◌, length}
use Rattle.go_workers.specs.Samples.{HasNothing, MayArchive}
use Rattle.go_workers.proofs.thread_tests.archive_all.Given as goal

abbrev pub invariant-loop-left : goal.invariant-loop-left
invariant-loop-left g l =
    (l.seat.table_id ≡ l.fn.seat.table_id) × (l.seat.me.0.core.live ≡ l.fn.seat.me.0.core.live) × HasNothing l.seat.me
    × MayArchive 128 l.seat.me.0 × (l.seat.me.0.share ≡ l.fn.seat.me.0.share) × (l.seat.me.0.about ≡ l.fn.seat.me.0.about) × (length l.buf ≡ 128)

abbrev pub decreases-loop-left : goal.decreases-loop-left
decreases-loop-left g l = l.left
