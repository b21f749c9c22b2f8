-- `stream_all`: the seat may stream on.
use Rattle.std.proofs.Common.{◌≡◌, ◌≤◌, length}
use Rattle.go_word.specs.declared.word.TheConstants.{ID_LIMIT}
use Rattle.go_rule.specs.Steps.{IsAt}
use Rattle.go_stream.proofs.thread_tests.stream_all.Given as goal

abbrev pub invariant-loop-stream : goal.invariant-loop-stream
invariant-loop-stream g l =
    IsAt l.ring.table.shared.table_id l.seat.table_id l.seat.me.0 × (l.stream.cursor ≤ l.seat.me.0.core.seen) × (l.seat.me.0.about.vertices ≤ ID_LIMIT)
    × (length l.buf.items ≡ 4096)

abbrev pub decreases-loop-stream : goal.decreases-loop-stream
decreases-loop-stream g l = l.left
