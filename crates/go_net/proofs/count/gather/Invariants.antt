-- The loop of `gather`.
use Rattle.std.proofs.Common.{◌≡◌, ◌++◌, ◌≤◌, take, drop, length}
use Rattle.go_net.specs.Tally.{count_at, without_counted}
use Rattle.go_net.proofs.count.gather.Given as goal

-- what was kept so far, and what the counts leave of the rest, is what they leave of the whole
abbrev pub invariant-loop-i : goal.invariant-loop-i
invariant-loop-i l = record {
  behind : l.kept ≤ l.i;
  list : length l.list ≡ length l.initial.list;
  counts : length l.counts ≡ length l.targets;
  left : take l.kept l.list ++ without_counted (count_at l.targets l.counts) (drop l.i l.list)
      ≡ without_counted (count_at l.targets l.initial.counts) l.initial.list;
}
