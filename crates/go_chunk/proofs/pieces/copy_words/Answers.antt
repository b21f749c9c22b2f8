-- A turn copies what is wanted of one piece.
use Rattle.std.proofs.Common.{arith}
use Rattle.std.proofs.lemmas.Grind.{common_steps}
use Rattle.go_chunk.proofs.CopyLemmas.{is_copying-next}
use Rattle.go_chunk.proofs.pieces.copy_words.Goals as goal

pub loop-piece-preserved : goal.loop-piece-preserved
loop-piece-preserved c = is_copying-next _ _ _ _ _ _ _ c.piece-item.result _ c.loop-piece.invariant c.loop-piece-test.true c.piece-item.is (grind (
  arith,
  common_steps,
)) (grind (arith, common_steps))
