-- `take_and_give`: the seat is one of the ring's.
use Rattle.go_rule.specs.Steps.{IsAt}
use Rattle.go_bench.proofs.turns.take_and_give.Given as goal

abbrev pub invariant-loop : goal.invariant-loop
invariant-loop l = IsAt l.ring.table.shared.table_id l.seat.table_id l.seat.me.0
