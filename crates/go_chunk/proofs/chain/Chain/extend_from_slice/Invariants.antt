-- The words so far stand behind the others.
use Rattle.std.proofs.Common.{◌≡◌, ◌+◌, ◌++◌, take}
use Rattle.go_chunk.proofs.chain.Chain.extend_from_slice.Given as goal

abbrev pub invariant-loop-word : goal.invariant-loop-word
invariant-loop-word l = record {
  added : l.self.words ≡ l.fn.self.words ++ take l.word-index l.words;
  falls : l.self.spare + l.word-index ≡ l.fn.self.spare;
}
