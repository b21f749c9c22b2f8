-- `take_run`: the entries so far are a run.
use Rattle.std.proofs.Common.{◌≡◌, ◌+◌, ◌-◌, ◌≤◌, length, take, drop}
use Rattle.go_rule.specs.Views.{frame_of}
use Rattle.go_ring.specs.Cursors.{IsCursorAt}
use Rattle.go_ring.proofs.Runs.{Reading}
use Rattle.go_ring.proofs.takes.take_run.Given as goal

abbrev pub invariant-loop-count : goal.invariant-loop-count
invariant-loop-count g l =
    (l.seat.table_id ≡ l.initial.seat.table_id) × (l.seat.id ≡ l.initial.seat.id) × (l.seat.me.0.core.live ≡ l.initial.seat.me.0.core.live)
    × Reading l.from (take l.count l.out) l.initial.seat.me l.seat.me × (length l.out ≡ length l.initial.out)
    × (drop l.count l.out ≡ drop l.count l.initial.out)
    × (l.count ≤ length l.out) × IsCursorAt (frame_of l.ring.table.shared.key) (l.from + l.count) l.cursor

abbrev pub decreases-loop-count : goal.decreases-loop-count
decreases-loop-count g l = length l.out - l.count
