-- `flush_all`: the seat may flush on.
use Rattle.std.proofs.Common.{◌≡◌, true, length}
use Rattle.go_rule.specs.Steps.{IsAt}
use Rattle.go_workers.specs.Samples.{HasNothing}
use Rattle.go_rounds.proofs.thread_tests.flush_all.Given as goal

abbrev pub invariant-loop-left : goal.invariant-loop-left
invariant-loop-left g l =
    IsAt l.ring.table.shared.table_id l.seat.table_id l.seat.me.0 × HasNothing l.seat.me × (l.seat.me.0.core.flushes ≡ true) × (length l.buf ≡ 128)

abbrev pub decreases-loop-left : goal.decreases-loop-left
decreases-loop-left g l = l.left
