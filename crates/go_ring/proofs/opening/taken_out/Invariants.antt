-- `taken_out`: the parts so far, and the slots that are left, last first.
use Rattle.std.proofs.Common.{◌≡◌, ◌+◌, ◌≤◌, ◌++◌, reverse, flat_map, option_to_list}
use Rattle.std.specs.Vec.{vec_len, vec_capacity}
use Rattle.go_ring.proofs.opening.taken_out.Given as goal

abbrev pub invariant-loop-slot : goal.invariant-loop-slot
invariant-loop-slot g l =
    (l.parts.items ++ flat_map option_to_list (reverse l.slots.items) ≡ flat_map option_to_list l.fn.slots.items)
    × (vec_len l.parts + vec_len l.slots ≤ vec_capacity l.parts)

abbrev pub decreases-loop-slot : goal.decreases-loop-slot
decreases-loop-slot g l = goal.left-loop-slot g l
