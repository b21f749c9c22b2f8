-- `put_in`: the slots so far, and the parts that are left, last first.
use Rattle.std.proofs.Common.{◌≡◌, ◌+◌, ◌≤◌, ◌++◌, map, reverse, Some}
use Rattle.std.specs.Vec.{vec_len, vec_capacity}
use Rattle.go_ring.proofs.opening.put_in.Given as goal

abbrev pub invariant-loop-part : goal.invariant-loop-part
invariant-loop-part g l =
    (l.slots.items ++ map Some (reverse l.parts.items) ≡ map Some l.fn.parts.items) × (vec_capacity l.parts ≡ vec_capacity l.fn.parts)
    × (vec_len l.slots + vec_len l.parts ≤ vec_capacity l.slots)

abbrev pub decreases-loop-part : goal.decreases-loop-part
decreases-loop-part g l = goal.left-loop-part g l
