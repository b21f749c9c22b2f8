-- `count_at_random`: the seat has no part in its hand between two turns, and what it had else.
use Rattle.std.proofs.Common.{◌-◌}
use Rattle.go_rule.specs.Steps.{IsAt}
use Rattle.go_rule.specs.Samples.{IsFree}
use Rattle.go_turns.specs.Samples.{Stays}
use Rattle.go_turns.proofs.thread_tests.count_at_random.Given as goal

abbrev pub invariant-loop-turn : goal.invariant-loop-turn
invariant-loop-turn g l =
    IsAt l.ring.table.shared.table_id l.seat.table_id l.seat.me.0 × IsFree l.seat.me × Stays l.fn.seat.me.0 l.seat.me.0

abbrev pub decreases-loop-turn : goal.decreases-loop-turn
decreases-loop-turn g l = 900 - l.turn
