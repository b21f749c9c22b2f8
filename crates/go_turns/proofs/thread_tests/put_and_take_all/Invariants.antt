-- `put_and_take_all`: so many entries were taken.
use Rattle.std.proofs.Common.{◌-◌, ◌≡◌, ◌^◌, ◌≤◌, ◌+◌}
use Rattle.go_rule.specs.Steps.{IsAt}
use Rattle.go_rule.specs.Samples.{IsFree, IsArchiver}
use Rattle.go_turns.proofs.thread_tests.put_and_take_all.Given as goal

abbrev pub invariant-loop-at : goal.invariant-loop-at
invariant-loop-at l =
    IsAt l.ring.table.shared.table_id l.seat.table_id l.seat.me.0 × IsFree l.seat.me × IsArchiver l.at l.seat.me.0
    × (l.seat.me.0.share.quota + l.at ≡ 300) × (l.seat.me.0.share.lot ≡ 2 ^ 32) × (l.at ≤ 300)

abbrev pub decreases-loop-at : goal.decreases-loop-at
decreases-loop-at l = 300 - l.at
