-- `put_all`: the seat may still put what is left.
use Rattle.std.proofs.Common.{◌≤◌}
use Rattle.go_ring.specs.Samples.{MayPut}
use Rattle.go_bench.proofs.ring_puts.put_all.Given as goal

abbrev pub invariant-loop-left : goal.invariant-loop-left
invariant-loop-left l = MayPut l.left l.ring.table.shared.table_id l.seat.table_id l.seat.me.0 × (l.at ≤ 65536)

abbrev pub decreases-loop-left : goal.decreases-loop-left
decreases-loop-left l = l.left
