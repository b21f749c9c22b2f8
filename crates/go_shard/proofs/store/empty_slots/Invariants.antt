-- The loop of `empty_slots`.
use Rattle.std.proofs.Common.{◌≡◌, replicate}
use Rattle.go_shard.specs.Lane.{empty_lane}
use Rattle.go_shard.proofs.store.empty_slots.Given as goal

-- so far each place is without entries
abbrev pub invariant-loop : goal.invariant-loop
invariant-loop l = l.slots.items ≡ replicate l.counter empty_lane
