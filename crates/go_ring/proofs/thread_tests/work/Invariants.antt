-- `work`: the worker took all up to its front.
use Rattle.std.proofs.Common.{◌^◌, ◌<◌}
use Rattle.go_rule.specs.Steps.{IsAt}
use Rattle.go_rule.specs.Samples.{IsFree}
use Rattle.go_ring.specs.Samples.{IsWorker}
use Rattle.go_ring.proofs.thread_tests.work.Given as goal

abbrev pub invariant-loop-front : goal.invariant-loop-front
invariant-loop-front l =
    IsAt l.ring.table.shared.table_id l.seat.table_id l.seat.me.0 × IsFree l.seat.me × IsWorker l.place l.front l.seat.me.0 × (l.front < 2 ^ 32)

abbrev pub decreases-loop-front : goal.decreases-loop-front
decreases-loop-front l = l.left
