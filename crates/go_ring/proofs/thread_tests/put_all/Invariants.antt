-- `put_all`: the seat may still put what is left.
use Rattle.std.proofs.Common.{◌-◌, ◌*◌, ◌≤◌}
use Rattle.go_rule.specs.Steps.{IsAt}
use Rattle.go_ring.proofs.thread_tests.put_all.Given as goal

abbrev pub invariant-loop-round : goal.invariant-loop-round
invariant-loop-round l =
    IsAt l.ring.table.shared.table_id l.seat.table_id l.seat.me.0 × (3 * (2000 - l.round) ≤ l.seat.me.0.share.quota) × (l.round ≤ 2000)

abbrev pub decreases-loop-round : goal.decreases-loop-round
decreases-loop-round l = 2000 - l.round
