-- The loop of `add_counts`.
use Rattle.std.proofs.Common.{◌≡◌, ◌++◌, take, map}
use Rattle.go_versions.specs.History.{count_at}
use Rattle.go_shard.specs.Lane.{Lane}
use Rattle.go_shard.proofs.counting.add_counts.Given as goal

-- those of the vertices so far are there
abbrev pub invariant-loop-slot : goal.invariant-loop-slot
invariant-loop-slot l = l.out.items ≡ l.fn.out.items ++ map (λ (lane : Lane). count_at lane.versions l.front) (take l.slot-index l.slots)
