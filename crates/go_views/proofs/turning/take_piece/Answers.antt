-- `take_piece`: what was taken is a shard.
use Rattle.std.proofs.Common.{arith, sym, subst}
use Rattle.go_core.specs.Parts.{IsShardPlace}
use Rattle.go_rule.specs.Views.{frame_of}
use Rattle.go_turns.specs.Holding.{Takes}
use Rattle.go_piece.specs.Meanings.{meaning_of}
use Rattle.go_views.proofs.ShardHanded.{held_so}
use Rattle.go_views.proofs.turning.take_piece.Goals as goal

pub returns-clause-takes : goal.returns-clause-takes
returns-clause-takes g c =
    let f = frame_of c.args.ring.now.table.shared.key in
    subst (λ p. Takes (meaning_of g.D.Disk.device) f c.args.place p c.args.seat.now.me c.take.new.seat.me) (sym c.lift.ensures.part) c.take.ensures.takes.1

pub returns-clause-held : goal.returns-clause-held
returns-clause-held g c =
    let ring = c.args.ring.now in
    let f = frame_of ring.table.shared.key in
    let place = c.args.place in
    let me = c.args.seat.now.me in
    let now = c.take.new.seat.me in
    let shards = ring.shards_is in
    let less = c.requires.place in
    let here : IsShardPlace f place = omega arith in
    let takes = subst (λ p. Takes (meaning_of g.D.Disk.device) f place p me now) (sym c.lift.ensures.part) c.take.ensures.takes.1 in
    held_so g.D.Disk.device f place c.lift.result.part me now takes here
