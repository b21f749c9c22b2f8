-- `copy_ring`: what holds before a turn.
use Rattle.std.proofs.Common.{◌≡◌, ◌+◌, ◌-◌, ◌^◌, ◌<◌, length}
use Rattle.go_ring.specs.Copies.{GoesOn}
use Rattle.go_ring.proofs.Turns.{Copying}
use Rattle.go_ring.proofs.copies.copy_ring.Given as goal

abbrev pub invariant-loop-next : goal.invariant-loop-next
invariant-loop-next g l =
    (l.seat.table_id ≡ l.fn.seat.table_id) × (l.seat.id ≡ l.fn.seat.id) × (l.seat.me.1 ≡ l.fn.seat.me.1) × (length l.buf ≡ length l.fn.buf)
    × Copying l.ring.table.shared.key.layout.ring l.from l.fn.seat.me.0 l.seat.me.0 l.buf l.next × (l.head ≡ l.seat.me.0.core.head)
    × GoesOn l.initial.seat.me.0 l.seat.me.0 × (l.head < 2 ^ 32)

abbrev pub decreases-loop-next : goal.decreases-loop-next
decreases-loop-next g l = (l.limit - l.seat.me.0.core.archived) + (l.limit - l.next)
