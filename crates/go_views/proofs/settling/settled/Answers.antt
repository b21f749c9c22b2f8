-- `settled`: a shard whose pin was moved may be given back, and its vertices were counted.
use Rattle.std.proofs.Common.{sym, subst}
use Rattle.go_rule.specs.Turns.{CanGive}
use Rattle.go_piece.specs.declared.piece.Piece.TheVariants.{Shard}
use Rattle.go_piece.specs.Pieces.{OnShard}
use Rattle.go_piece.specs.Meanings.{meaning_of, IsShardInHand}
use Rattle.go_piece.proofs.ShardCalls.{shard_pin_moved}
use Rattle.go_views.specs.PlaceTurns.{CanShift}
use Rattle.go_views.proofs.settling.settled.Goals as goal

pub returns-in-Shard-clause-gives : goal.returns-in-Shard-clause-gives
returns-in-Shard-clause-gives g c = λ f d place here held mine to.
    let device = g.D.Disk.device in
    let old = c.in-Shard.shard in
    let new = c.move_pin.new.self in
    let hand = subst (λ p. OnShard (IsShardInHand device d.about place) p) c.in-Shard.is held in
    let can = subst (λ p. OnShard (CanShift c.args.name c.args.archived) p) c.in-Shard.is c.requires in
    subst (λ p. CanGive (meaning_of device) f d place p (Shard new)) (sym c.in-Shard.is)
    (shard_pin_moved device f d place old new c.args.name c.args.archived here hand mine can.upwards to c.move_pin.ensures)
