-- `unpin_each`: the pins before the place are gone.
use Rattle.std.proofs.Common.{◌≡◌, ◌-◌, ◌≤◌, length}
use Rattle.go_rule.specs.Views.{frame_of}
use Rattle.go_views.specs.Pins.{HasUnpinnedEach}
use Rattle.go_views.proofs.releasing.unpin_each.Given as goal

abbrev pub invariant-loop-place : goal.invariant-loop-place
invariant-loop-place g l =
    (l.seat.table_id ≡ l.initial.seat.table_id) × (l.seat.id ≡ l.initial.seat.id) × (l.seat.me.1 ≡ l.initial.seat.me.1)
    × HasUnpinnedEach (frame_of l.ring.table.shared.key) l.place l.names l.initial.seat.me.0 l.seat.me.0 × (l.place ≤ length l.names)

abbrev pub decreases-loop-place : goal.decreases-loop-place
decreases-loop-place g l = length l.names - l.place
