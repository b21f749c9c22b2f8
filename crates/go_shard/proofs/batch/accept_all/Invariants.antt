-- The loop of `accept_all`.
use Rattle.std.proofs.Common.{◌≡◌, ℕ, length, filter, fold, map, take}
use Rattle.go_word.specs.Word.{plain_word}
use Rattle.go_shard.specs.Lane.{lane_at, is_at, accepting}
use Rattle.go_shard.proofs.batch.accept_all.Given as goal

-- each vertex has taken its entries so far
abbrev pub invariant-loop-edge : goal.invariant-loop-edge
invariant-loop-edge l = record {
  all : length l.slots ≡ length l.initial.slots;
  accepted : (place : ℕ) →
      lane_at l.slots place ≡ fold (accepting l.front) (lane_at l.initial.slots place)
      (map plain_word (filter (is_at l.shards place) (take l.edge-index l.batch)));
}
