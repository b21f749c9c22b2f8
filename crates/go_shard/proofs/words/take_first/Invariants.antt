-- The loop of `take_first`.
use Rattle.std.proofs.Common.{◌-◌, ◌≡◌, ◌≤◌, take}
use Rattle.go_net.specs.Net.{net_of}
use Rattle.go_shard.proofs.words.take_first.Given as goal

-- the list so far is what the words up to the place make of it
abbrev pub invariant-loop-place : goal.invariant-loop-place
invariant-loop-place l = record {
  within : l.place ≤ l.count;
  list : l.list.items ≡ net_of l.initial.list.items (take l.place l.chain.words);
}

abbrev pub decreases-loop-place : goal.decreases-loop-place
decreases-loop-place l = l.count - l.place
