-- The loop of `add_known`.
use Rattle.std.proofs.Common.{◌≡◌, ◌++◌, take, map}
use Rattle.go_shard.specs.Lane.{known}
use Rattle.go_shard.proofs.counting.add_known.Given as goal

-- those of the vertices so far are there
abbrev pub invariant-loop-slot : goal.invariant-loop-slot
invariant-loop-slot l = l.out.items ≡ l.fn.out.items ++ map known (take l.slot-index l.slots)
