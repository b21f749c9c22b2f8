-- What is copied, followed by what is still to be copied, is the front that was asked for.
use Rattle.std.proofs.Common.{take, drop}
use Rattle.go_chunk.specs.Pieces.{words_of_all}
use Rattle.go_chunk.proofs.CopyLemmas.{IsCopying}
use Rattle.go_chunk.proofs.pieces.copy_words.Given as goal

abbrev pub invariant-loop-piece : goal.invariant-loop-piece
invariant-loop-piece l = IsCopying l.fn.out.items (take l.k (words_of_all l.pieces)) l.out.items l.left (drop l.piece-index l.pieces)
