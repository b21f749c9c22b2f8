-- `compact_often`: the seat is one of the ring.
use Rattle.go_rule.specs.Steps.{IsAt}
use Rattle.go_rounds.proofs.thread_tests.compact_often.Given as goal

abbrev pub invariant-loop-left : goal.invariant-loop-left
invariant-loop-left g l = IsAt l.ring.table.shared.table_id l.seat.table_id l.seat.me.0

abbrev pub decreases-loop-left : goal.decreases-loop-left
decreases-loop-left g l = l.left
