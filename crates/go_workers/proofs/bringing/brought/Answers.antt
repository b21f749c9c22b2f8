-- `brought`: a shard that was brought on, or was refused, may be given back.
use Rattle.std.proofs.Common.{sym, subst}
use Rattle.go_rule.specs.Turns.{CanGive}
use Rattle.go_piece.specs.declared.piece.Piece.TheVariants.{Shard}
use Rattle.go_piece.specs.Pieces.{OnShard}
use Rattle.go_piece.specs.Meanings.{meaning_of, IsShardInHand}
use Rattle.go_workers.specs.Bringing.{CanBringOn}
use Rattle.go_workers.proofs.ShardsGiven.{brought_either}
use Rattle.go_workers.proofs.bringing.brought.Goals as goal

pub returns-in-Shard-clause-gives : goal.returns-in-Shard-clause-gives
returns-in-Shard-clause-gives g c = λ f d here held may.
    let device = g.D.Disk.device in
    let place = c.args.place in
    let run = c.args.run.now in
    let lists = c.args.lists.now in
    let old = c.in-Shard.shard in
    let new = c.bring_on-done.new.shard in
    let e = c.bring_on-done.ensures in
    let hand = subst (λ p. OnShard (IsShardInHand device d.about place) p) c.in-Shard.is held in
    let can = subst (λ p. OnShard (CanBringOn place c.args.from run lists) p) c.in-Shard.is c.requires in
    subst (λ p. CanGive (meaning_of device) f d place p (Shard new)) (sym c.in-Shard.is)
    (brought_either device f d place c.bring_on-done.result c.args.from run lists old new here hand may can e.brought e.err)
