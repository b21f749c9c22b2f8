-- The loop of `withdraw_all`.
use Rattle.std.proofs.Common.{◌≡◌, ◌==◌, if◌then◌else◌, ℕ, length, count_by, take}
use Rattle.go_shard.specs.Lane.{lane_at, is_at, promising}
use Rattle.go_shard.proofs.batch.withdraw_all.Given as goal

-- nothing is promised to the vertices so far, and the others are as before
abbrev pub invariant-loop-edge : goal.invariant-loop-edge
invariant-loop-edge l = record {
  all : length l.slots ≡ length l.initial.slots;
  withdrawn : (place : ℕ) → lane_at l.slots place ≡ (if count_by (is_at l.shards place) (take l.edge-index l.batch) == 0 then lane_at l.initial.slots place
      else promising (lane_at l.initial.slots place) 0);
}
