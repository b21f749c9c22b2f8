-- The loop of `between`.
use Rattle.std.proofs.Common.{◌-◌, ◌≡◌, ◌≤◌, take, drop}
use Rattle.go_shard.proofs.words.between.Given as goal

-- the words so far are those up to the place
abbrev pub invariant-loop-place : goal.invariant-loop-place
invariant-loop-place l = record {
  begun : l.from ≤ l.place;
  within : l.place ≤ l.to;
  words : l.words.items ≡ take (l.place - l.from) (drop l.from l.chain.words);
}

abbrev pub decreases-loop-place : goal.decreases-loop-place
decreases-loop-place l = l.to - l.place
