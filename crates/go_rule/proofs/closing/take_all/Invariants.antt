-- `take_all`: the parts before the place were taken, and the others are still there.
use Rattle.std.proofs.Common.{◌≡◌, ◌-◌, ◌≤◌}
use Rattle.std.specs.Vec.{vec_len, vec_capacity}
use Rattle.std.specs.Mem.Slots.{slots_items, slots_filled, slots_len}
use Rattle.go_rule.proofs.Takings.{HasTaken}
use Rattle.go_rule.proofs.closing.take_all.Given as goal

abbrev pub invariant-loop-place : goal.invariant-loop-place
invariant-loop-place g l =
    (slots_items l.closed.slots ≡ slots_items l.initial.closed.slots) × (slots_len l.closed.slots ≡ l.count) × (l.closed.words ≡ l.initial.closed.words)
    × HasTaken (slots_items l.closed.slots) (slots_filled l.closed.slots) l.parts.items l.place l.count × (l.place ≤ l.count) × (vec_len l.parts ≡ l.place)
    × (l.count ≤ vec_capacity l.parts)

abbrev pub decreases-loop-place : goal.decreases-loop-place
decreases-loop-place g l = l.count - l.place
