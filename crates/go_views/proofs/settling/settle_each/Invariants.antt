-- `settle_each`: the pins before the place stand at the archived front, and the counts of those shards are listed.
use Rattle.std.proofs.Common.{◌≡◌, ◌-◌, ◌≤◌, length, take}
use Rattle.go_rule.specs.Views.{frame_of}
use Rattle.go_views.specs.Pins.{HasSettledEach}
use Rattle.go_views.proofs.CountsListed.{AreListedTo}
use Rattle.go_views.proofs.settling.settle_each.Given as goal

abbrev pub invariant-loop-place : goal.invariant-loop-place
invariant-loop-place g l =
    (l.seat.table_id ≡ l.initial.seat.table_id) × (l.seat.id ≡ l.initial.seat.id) × (l.seat.me.1 ≡ l.initial.seat.me.1)
    × HasSettledEach (frame_of l.ring.table.shared.key) l.place l.names l.archived l.initial.seat.me.0 l.seat.me.0
    × AreListedTo l.ring.shards l.initial.seat.me.0.about.vertices l.place (take l.archived l.initial.seat.me.0.told.seen) l.list.items
    × (l.place ≤ length l.names)

abbrev pub decreases-loop-place : goal.decreases-loop-place
decreases-loop-place g l = length l.names - l.place
