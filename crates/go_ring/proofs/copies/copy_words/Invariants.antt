-- `copy_words`: the words so far are held.
use Rattle.std.proofs.Common.{◌≡◌, ◌-◌, ◌≤◌, length}
use Rattle.go_rule.specs.Views.{frame_of}
use Rattle.go_ring.specs.Cursors.{IsCursorAt}
use Rattle.go_ring.specs.Reads.{Held, ReadsOnly}
use Rattle.go_ring.proofs.copies.copy_words.Given as goal

abbrev pub invariant-loop-next : goal.invariant-loop-next
invariant-loop-next g l =
    (l.seat.table_id ≡ l.initial.seat.table_id) × (l.seat.id ≡ l.initial.seat.id) × (l.seat.me.0.core.live ≡ l.initial.seat.me.0.core.live)
    × (l.seat.me.1 ≡ l.initial.seat.me.1) × (length l.buf ≡ length l.initial.buf) × ReadsOnly l.initial.seat.me.0 l.seat.me.0
    × Held l.ring.slots l.seat.me.0.core l.buf l.next × (l.from ≤ l.next) × (l.next ≤ l.to)
    × IsCursorAt (frame_of l.ring.table.shared.key) l.next l.cursor

abbrev pub decreases-loop-next : goal.decreases-loop-next
decreases-loop-next g l = l.to - l.next
