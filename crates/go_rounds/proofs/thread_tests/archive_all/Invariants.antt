-- `archive_all`: the seat may archive on.
use Rattle.std.proofs.Common.{◌≡◌, length}
use Rattle.go_rule.specs.Steps.{IsAt}
use Rattle.go_workers.specs.Samples.{HasNothing, MayArchive}
use Rattle.go_rounds.proofs.thread_tests.archive_all.Given as goal

abbrev pub invariant-loop-left : goal.invariant-loop-left
invariant-loop-left g l =
    IsAt l.ring.table.shared.table_id l.seat.table_id l.seat.me.0 × HasNothing l.seat.me × MayArchive 128 l.seat.me.0 × (length l.buf ≡ 128)

abbrev pub decreases-loop-left : goal.decreases-loop-left
decreases-loop-left g l = l.left
