-- `put_all`: so many were put.
use Rattle.std.proofs.Common.{◌+◌, ◌-◌, ◌≤◌}
use Rattle.go_workers.specs.Samples.{HasNothing}
use Rattle.go_rule.specs.Steps.{IsAt}
use Rattle.go_rounds.proofs.thread_tests.put_all.Given as goal

abbrev pub invariant-loop-at : goal.invariant-loop-at
invariant-loop-at l =
    IsAt l.ring.table.shared.table_id l.seat.table_id l.seat.me.0 × HasNothing l.seat.me × (3000 ≤ l.seat.me.0.share.quota + l.at) × (l.at ≤ 3000)

abbrev pub decreases-loop-at : goal.decreases-loop-at
decreases-loop-at l = 3000 - l.at
