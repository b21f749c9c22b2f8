-- The loop of `tail_behind`.
use Rattle.std.proofs.Common.{◌-◌, ◌≡◌, ◌≤◌, ◌+◌, take, drop}
use Rattle.go_shard.proofs.words.tail_behind.Given as goal

-- the words so far are those up to the place, and there is room for the others and few more
abbrev pub invariant-loop-place : goal.invariant-loop-place
invariant-loop-place l = record {
  begun : l.count ≤ l.place;
  within : l.place ≤ l.end;
  words : l.tail.words ≡ take (l.place - l.count) (drop l.count l.chain.words);
  room : l.end ≤ l.tail.spare + l.place;
  few : l.tail.spare + l.place ≤ l.end + 255;
}

abbrev pub decreases-loop-place : goal.decreases-loop-place
decreases-loop-place l = l.end - l.place
