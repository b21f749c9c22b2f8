-- `unpinned`: a shard without the pin may be given back.
use Rattle.std.proofs.Common.{sym, subst}
use Rattle.go_rule.specs.Turns.{CanGive}
use Rattle.go_piece.specs.declared.piece.Piece.TheVariants.{Shard}
use Rattle.go_piece.specs.Pieces.{OnShard}
use Rattle.go_piece.specs.Meanings.{meaning_of, IsShardInHand}
use Rattle.go_piece.proofs.ShardCalls.{shard_unpinned}
use Rattle.go_views.proofs.releasing.unpinned.Goals as goal

pub returns-in-Shard-clause-gives : goal.returns-in-Shard-clause-gives
returns-in-Shard-clause-gives g c = λ f d place here held mine.
    let device = g.D.Disk.device in
    let old = c.in-Shard.shard in
    let new = c.unpin.new.self in
    let hand = subst (λ p. OnShard (IsShardInHand device d.about place) p) c.in-Shard.is held in
    subst (λ p. CanGive (meaning_of device) f d place p (Shard new)) (sym c.in-Shard.is)
    (shard_unpinned device f d place old new c.args.name here hand mine c.unpin.ensures)
