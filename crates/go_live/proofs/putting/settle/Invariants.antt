-- `settle`: while the claim is held, the seat looks at fronts and at the flag alone.
use Rattle.std.proofs.Common.{◌≡◌}
use Rattle.go_live.specs.Putting.{LooksOn}
use Rattle.go_live.proofs.putting.settle.Given as goal

abbrev pub invariant-loop : goal.invariant-loop
invariant-loop g l =
    (goal.iterator-loop g).can_next l.iterator' × (goal.iterator-loop g).is_finite l.iterator'
    × (l.seat.table_id ≡ l.fn.seat.table_id) × (l.seat.id ≡ l.fn.seat.id) × (l.seat.me.1 ≡ l.fn.seat.me.1)
    × (l.held ≡ l.fn.claim) × LooksOn l.fn.seat.me.0 l.seat.me.0
