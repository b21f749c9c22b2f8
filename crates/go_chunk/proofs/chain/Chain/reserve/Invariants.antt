-- The words stay, the room only grows, by a chunk more than is wanted at most, and what is missing of it falls.
use Rattle.std.proofs.Common.{◌≡◌, ◌≤◌, ◌+◌, ◌-◌, max}
use Rattle.go_chunk.proofs.chain.Chain.reserve.Given as goal

abbrev pub invariant-loop-self : goal.invariant-loop-self
invariant-loop-self l = record {
  words : l.self.words ≡ l.fn.self.words;
  never_less : l.fn.self.spare ≤ l.self.spare;
  no_more : l.self.spare ≤ max l.fn.self.spare (l.k + 255);
}

abbrev pub decreases-loop-self : goal.decreases-loop-self
decreases-loop-self l = l.k - l.self.spare
