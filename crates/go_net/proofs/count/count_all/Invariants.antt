-- The loops of `count_all`.
use Rattle.std.proofs.Common.{◌≡◌, ◌++◌, take, length}
use Rattle.go_net.specs.Net.{net_of}
use Rattle.go_net.specs.Tally.{additions, IsTally}
use Rattle.go_net.proofs.count.count_all.Given as goal

-- the counts tell how the base so far came from itself
abbrev pub invariant-loop-d : goal.invariant-loop-d
invariant-loop-d l = record {
  present : length l.present ≡ length l.targets;
  removed : length l.removed ≡ length l.targets;
  tally : IsTally l.targets l.present l.removed (take l.d-index l.base) (take l.d-index l.base);
}

-- the counts tell how the neighbours so far came from what was added so far
abbrev pub invariant-loop-word : goal.invariant-loop-word
invariant-loop-word l = record {
  present : length l.present ≡ length l.targets;
  removed : length l.removed ≡ length l.targets;
  tally : IsTally l.targets l.present l.removed (l.base ++ additions (take l.word-index l.tail)) (net_of l.base (take l.word-index l.tail));
}
