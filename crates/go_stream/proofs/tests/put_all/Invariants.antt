-- `put_all`: the seat may still put what is left.
use Rattle.std.proofs.Common.{◌+◌, ◌≤◌}
use Rattle.go_rule.specs.Steps.{IsAt}
use Rattle.go_stream.proofs.tests.put_all.Given as goal

abbrev pub invariant-loop-at : goal.invariant-loop-at
invariant-loop-at l = IsAt l.ring.table.shared.table_id l.seat.table_id l.seat.me.0 × (l.to ≤ l.at + l.seat.me.0.share.quota)
