-- `work`: each of the two workers took all up to its front.
use Rattle.std.proofs.Common.{◌^◌, ◌<◌}
use Rattle.go_rule.specs.Steps.{IsAt}
use Rattle.go_rule.specs.Samples.{IsFree}
use Rattle.go_ring.specs.Samples.{IsWorker}
use Rattle.go_bench.proofs.ring_worker.work.Given as goal

abbrev pub invariant-loop-archived : goal.invariant-loop-archived
invariant-loop-archived l =
    IsAt l.ring.table.shared.table_id l.archiver.table_id l.archiver.me.0 × IsAt l.ring.table.shared.table_id l.flusher.table_id l.flusher.me.0
    × IsFree l.archiver.me × IsFree l.flusher.me × IsWorker 0 l.archived l.archiver.me.0 × IsWorker 1 l.durable l.flusher.me.0
    × (l.archived < 2 ^ 32) × (l.durable < 2 ^ 32)

abbrev pub decreases-loop-archived : goal.decreases-loop-archived
decreases-loop-archived l = l.left
