-- `are_listed`: what remains of the seat.
use Rattle.std.proofs.Common.{◌≡◌, ◌-◌}
use Rattle.go_workers.specs.Samples.{HasNothing, MayArchive}
use Rattle.go_workers.proofs.thread_tests.are_listed.Given as goal

abbrev pub invariant-loop-v : goal.invariant-loop-v
invariant-loop-v g l =
    (l.seat.table_id ≡ l.fn.seat.table_id) × (l.seat.me.0.core.live ≡ l.fn.seat.me.0.core.live) × HasNothing l.seat.me
    × MayArchive 128 l.seat.me.0 × (l.seat.me.0.share ≡ l.fn.seat.me.0.share) × (l.seat.me.0.about ≡ l.fn.seat.me.0.about)

abbrev pub decreases-loop-v : goal.decreases-loop-v
decreases-loop-v g l = 8 - l.v
