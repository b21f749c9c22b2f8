-- `pin_each`: the shards before the place are pinned under these names.
use Rattle.std.proofs.Common.{◌≡◌, ◌-◌, ◌≤◌, length}
use Rattle.std.specs.Vec.{vec_capacity}
use Rattle.go_rule.specs.Views.{frame_of}
use Rattle.go_views.specs.Pins.{HasPinnedEach}
use Rattle.go_views.proofs.pinning.pin_each.Given as goal

abbrev pub invariant-loop-place : goal.invariant-loop-place
invariant-loop-place g l =
    (l.seat.table_id ≡ l.initial.seat.table_id) × (l.seat.id ≡ l.initial.seat.id) × (l.seat.me.1 ≡ l.initial.seat.me.1)
    × (length l.names.items ≡ l.place) × (l.ring.shards ≤ vec_capacity l.names)
    × HasPinnedEach (frame_of l.ring.table.shared.key) l.place l.names.items l.initial.seat.me.0 l.seat.me.0 × (l.place ≤ l.ring.shards)

abbrev pub decreases-loop-place : goal.decreases-loop-place
decreases-loop-place g l = l.ring.shards - l.place
