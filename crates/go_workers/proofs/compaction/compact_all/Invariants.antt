-- `compact_all`: the shards before the place are compacted.
use Rattle.std.proofs.Common.{◌≡◌, ℕ, ◌-◌, ◌<◌, ◌≤◌}
use Rattle.go_rule.specs.Views.{frame_of}
use Rattle.go_workers.specs.Turns.{HasTurned, HasCompactedAt}
use Rattle.go_workers.proofs.compaction.compact_all.Given as goal

abbrev pub invariant-loop-place : goal.invariant-loop-place
invariant-loop-place g l =
    (l.seat.table_id ≡ l.initial.seat.table_id) × (l.seat.id ≡ l.initial.seat.id)
    × HasTurned (frame_of l.ring.table.shared.key) l.initial.seat.me l.seat.me
    × ((k : ℕ) → k < l.place → HasCompactedAt g.D.Disk.device (frame_of l.ring.table.shared.key) l.ring.table.shared.table_id.slots k l.initial.seat.me l.seat.me)
    × (l.place ≤ l.ring.shards)

abbrev pub decreases-loop-place : goal.decreases-loop-place
decreases-loop-place g l = l.ring.shards - l.place
