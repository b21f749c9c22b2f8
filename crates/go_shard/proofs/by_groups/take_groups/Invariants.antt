-- The loop of `take_groups`.
use Rattle.std.proofs.Common.{◌≡◌, ℕ, length}
use Rattle.std.specs.Prelude.{if◌then◌else◌, nat_lt}
use Rattle.go_shard.specs.Lane.{lane_at, taking}
use Rattle.go_shard.specs.Groups.{begin_of, size_at, group_at}
use Rattle.go_shard.specs.Listing.{ListsBare}
use Rattle.go_shard.proofs.by_groups.take_groups.Given as goal

-- the vertices so far have taken their groups, and those without words are listed
abbrev pub invariant-loop-place : goal.invariant-loop-place
invariant-loop-place l = record {
  all : length l.slots ≡ length l.fn.slots;
  begins : l.from ≡ begin_of l.ends l.place;
  taken : (place : ℕ) → lane_at l.slots place ≡ (if nat_lt place l.place
      then taking l.front (group_at l.ends l.words place) (lane_at l.fn.slots place) else lane_at l.fn.slots place);
  listed : ListsBare l.fn.slots (λ place. if nat_lt place l.place then size_at l.ends place else 0) l.fn.listed.items l.listed.items;
}
