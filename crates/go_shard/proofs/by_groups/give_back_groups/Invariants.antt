-- The loop of `give_back_groups`.
use Rattle.std.proofs.Common.{◌≡◌, ℕ, length}
use Rattle.std.specs.Prelude.{if◌then◌else◌, nat_lt}
use Rattle.go_shard.specs.Lane.{lane_at, without_last}
use Rattle.go_shard.specs.Groups.{begin_of, size_at}
use Rattle.go_shard.proofs.by_groups.give_back_groups.Given as goal

-- the vertices so far have given their groups back
abbrev pub invariant-loop-place : goal.invariant-loop-place
invariant-loop-place l = record {
  all : length l.slots ≡ length l.initial.slots;
  begins : l.from ≡ begin_of l.ends l.place;
  given : (place : ℕ) → lane_at l.slots place ≡ (if nat_lt place l.place
      then without_last (size_at l.ends place) (lane_at l.initial.slots place) else lane_at l.initial.slots place);
}
