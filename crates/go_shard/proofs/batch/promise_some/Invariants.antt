-- The loop of `promise_some`.
use Rattle.std.proofs.Common.{◌≡◌, ℕ, length, count_by, take}
use Rattle.go_shard.specs.Lane.{lane_at, is_at, promising}
use Rattle.go_shard.specs.Listing.{ListsBare}
use Rattle.go_shard.proofs.batch.promise_some.Given as goal

-- each vertex has as many places promised as entries so far, and those without words are listed
abbrev pub invariant-loop-edge : goal.invariant-loop-edge
invariant-loop-edge l = record {
  all : length l.slots ≡ length l.fn.slots;
  promised : (place : ℕ) → lane_at l.slots place ≡ promising (lane_at l.fn.slots place) (count_by (is_at l.shards place) (take l.edge-index l.batch));
  listed : ListsBare l.fn.slots (λ place. count_by (is_at l.shards place) (take l.edge-index l.batch)) l.fn.listed.items l.listed.items;
}
