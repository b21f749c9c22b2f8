-- `bring_all_on`: the shards before the place stood at the run's end.
use Rattle.std.proofs.Common.{◌≡◌, ℕ, ◌+◌, ◌-◌, ◌<◌, ◌≤◌, length}
use Rattle.std.specs.Prelude.{Contains}
use Rattle.go_rule.specs.Views.{frame_of}
use Rattle.go_workers.specs.Turns.{HasServed}
use Rattle.go_workers.proofs.archiving.bring_all_on.Given as goal

abbrev pub invariant-loop-place : goal.invariant-loop-place
invariant-loop-place g l =
    (l.seat.table_id ≡ l.initial.seat.table_id) × (l.seat.id ≡ l.initial.seat.id)
    × HasServed (frame_of l.ring.table.shared.key) l.initial.seat.me l.seat.me
    × ((k : ℕ) → k < l.place → Contains l.seat.me.0.stake.stood (record { place = k; front = l.from + length l.run })) × (l.place ≤ length l.lists)

abbrev pub decreases-loop-place : goal.decreases-loop-place
decreases-loop-place g l = length l.lists - l.place
