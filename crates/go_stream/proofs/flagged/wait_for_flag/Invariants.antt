-- `wait_for_flag`: each look at the flag that found it down told the seat nothing.
use Rattle.std.proofs.Common.{◌≡◌, ◌⊎◌}
use Rattle.go_rule.specs.Steps.{Becomes}
use Rattle.go_rule.specs.Views.{with_unmoved}
use Rattle.go_stream.proofs.flagged.wait_for_flag.Given as goal

abbrev pub invariant-loop : goal.invariant-loop
invariant-loop g l =
    (goal.iterator-loop g).can_next l.iterator' × (goal.iterator-loop g).is_finite l.iterator'
    × (l.seat.table_id ≡ l.fn.seat.table_id) × (l.seat.id ≡ l.fn.seat.id)
    × ((l.seat.me ≡ l.fn.seat.me) ⊎ Becomes (with_unmoved l.fn.seat.me.0) l.fn.seat.me l.seat.me)
