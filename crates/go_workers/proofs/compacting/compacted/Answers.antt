-- `compacted`: a shard that was compacted, or was refused, may be given back.
use Rattle.std.proofs.Common.{sym, subst}
use Rattle.go_rule.specs.Turns.{CanGive}
use Rattle.go_piece.specs.declared.piece.Piece.TheVariants.{Shard}
use Rattle.go_piece.specs.Pieces.{OnShard}
use Rattle.go_piece.specs.Meanings.{meaning_of, IsShardInHand}
use Rattle.go_workers.proofs.ShardsGiven.{compacted_either}
use Rattle.go_workers.proofs.compacting.compacted.Goals as goal

pub returns-in-Shard-clause-gives : goal.returns-in-Shard-clause-gives
returns-in-Shard-clause-gives g c = λ f d place here held known.
    let device = g.D.Disk.device in
    let old = c.in-Shard.shard in
    let new = c.compact_shard-done.new.shard in
    let e = c.compact_shard-done.ensures in
    let hand = subst (λ p. OnShard (IsShardInHand device d.about place) p) c.in-Shard.is held in
    subst (λ p. CanGive (meaning_of device) f d place p (Shard new)) (sym c.in-Shard.is)
    (compacted_either device f d place c.compact_shard-done.result c.args.archived old new here hand known e.compacted e.err)
