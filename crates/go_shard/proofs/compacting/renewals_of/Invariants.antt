-- The loop of `renewals_of`.
use Rattle.std.proofs.Common.{◌≡◌, ℕ, ◌<◌, length, get_or}
use Rattle.std.specs.Prelude.{None}
use Rattle.go_shard.specs.Compacting.{Becomes}
use Rattle.go_shard.specs.Lane.{lane_at}
use Rattle.go_shard.proofs.compacting.renewals_of.Given as goal

-- there is the renewal of each place so far
abbrev pub invariant-loop-place : goal.invariant-loop-place
invariant-loop-place l = record {
  count : length l.renewals.items ≡ l.place-index;
  each : (k : ℕ) → k < l.place-index → Becomes l.front (lane_at l.slots (get_or l.listed k 0)) (get_or l.renewals.items k None);
}
