-- `put_all`: so many were put.
use Rattle.std.proofs.Common.{◌≡◌, ◌+◌, ◌-◌, ◌≤◌}
use Rattle.go_workers.specs.Samples.{HasNothing}
use Rattle.go_workers.proofs.thread_tests.put_all.Given as goal

abbrev pub invariant-loop-at : goal.invariant-loop-at
invariant-loop-at l =
    (l.seat.table_id ≡ l.fn.seat.table_id) × (l.seat.me.0.core.live ≡ l.fn.seat.me.0.core.live) × HasNothing l.seat.me
    × (l.seat.me.0.share.quota + l.at ≡ l.fn.seat.me.0.share.quota) × (l.seat.me.0.share.lot ≡ l.fn.seat.me.0.share.lot) × (l.at ≤ 3000)

abbrev pub decreases-loop-at : goal.decreases-loop-at
decreases-loop-at l = 3000 - l.at
