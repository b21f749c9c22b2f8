-- The loop of `read_words`.
use Rattle.std.proofs.Common.{length}
use Rattle.go_blocks.proofs.Steps.{WordsUpTo}
use Rattle.go_blocks.proofs.reader.read_words.Given as goal

-- the entries so far are those of the words so far
abbrev pub invariant-loop-word : goal.invariant-loop-word
invariant-loop-word l = WordsUpTo l.vertices l.words l.rest l.fn.edges.items l.edges.items

abbrev pub decreases-loop-word : goal.decreases-loop-word
decreases-loop-word l = length l.rest
