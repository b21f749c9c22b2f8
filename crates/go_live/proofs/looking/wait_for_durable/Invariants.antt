-- `wait_for_durable`: each look at the front and at the flag let the seat go on.
use Rattle.std.proofs.Common.{◌≡◌}
use Rattle.go_rule.specs.Views.{frame_of}
use Rattle.go_turns.specs.Going.{HasGoneOn}
use Rattle.go_live.proofs.looking.wait_for_durable.Given as goal

abbrev pub invariant-loop : goal.invariant-loop
invariant-loop g l =
    (goal.iterator-loop g).can_next l.iterator' × (goal.iterator-loop g).is_finite l.iterator'
    × (l.seat.table_id ≡ l.fn.seat.table_id) × (l.seat.id ≡ l.fn.seat.id) × (l.seat.me.1 ≡ l.fn.seat.me.1)
    × HasGoneOn (frame_of l.ring.table.shared.key) l.fn.seat.me.0 l.seat.me.0
