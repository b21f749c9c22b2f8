-- `look_often`: the seat may take a view again.
use Rattle.std.proofs.Common.{◌≡◌, length}
use Rattle.go_rule.specs.Steps.{IsAt}
use Rattle.go_rounds.proofs.thread_tests.look_often.Given as goal

abbrev pub invariant-loop-left : goal.invariant-loop-left
invariant-loop-left g l =
    IsAt l.ring.table.shared.table_id l.seat.table_id l.seat.me.0 × (l.seat.me.0.about.vertices ≡ 8) × (length l.buf ≡ 128)

abbrev pub decreases-loop-left : goal.decreases-loop-left
decreases-loop-left g l = l.left
