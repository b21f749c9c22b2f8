-- `bring_place_on`: the shard was taken, may be brought on, and goes back.
use Rattle.std.proofs.Common.{◌≡◌, ◌+◌, length, sym, refl, arith, subst}
use Rattle.std.specs.Prelude.{Contains}
use Rattle.go_rule.specs.Views.{frame_of}
use Rattle.go_shard.specs.Split.{IsSplit}
use Rattle.go_turns.proofs.Handing.{told_of, view_is}
use Rattle.go_turns.proofs.Handed.{took, may_go, went, on_ok}
use Rattle.go_piece.specs.Pieces.{state_in, OnShard}
use Rattle.go_piece.specs.Meanings.{meaning_of, IsShardInHand}
use Rattle.go_workers.specs.Bringing.{CanBringOn}
use Rattle.go_workers.specs.Turns.{MayBringOn}
use Rattle.go_workers.proofs.Served.{may_taking, served_with}
use Rattle.go_piece.proofs.Unchanged.{piece_in_hand}
use Rattle.go_workers.proofs.ShardsGiven.{can_bring}
use Rattle.go_workers.proofs.archiving.bring_place_on.Goals as goal

pub brought-piece-requires : goal.brought-piece-requires
brought-piece-requires g c =
    let device = g.D.Disk.device in
    let m = meaning_of device in
    let ring = c.args.ring.now in
    let f = frame_of ring.table.shared.key in
    let place = c.args.place in
    let me = c.args.seat.now.me in
    let now = c.take.new.seat.me in
    let shards = ring.shards_is in
    let less = c.requires.place in
    let base = c.take.ensures.takes.1.turn.about.0 in
    let count = c.requires.shards.0 in
    let few = c.requires.shards.1 in
    let same : ring.shards ≡ me.0.about.shards = omega arith in
    subst (OnShard (CanBringOn place c.args.from c.args.run.now c.args.lists.now)) (sym c.lift-part.ensures.part)
    (can_bring device f me.0 place c.args.from c.args.run.now c.args.lists.now c.take.result.part (omega arith) base
    (told_of m f place c.take.result.part me now c.take.ensures.takes.1) c.requires.may (omega arith) (omega arith)
    (subst (λ n. IsSplit n c.args.run.now c.args.lists.now) same c.requires.split))

pub give-requires-clause-may : goal.give-requires-clause-may
give-requires-clause-may g c =
    let device = g.D.Disk.device in
    let m = meaning_of device in
    let ring = c.args.ring.now in
    let f = frame_of ring.table.shared.key in
    let place = c.args.place in
    let me = c.args.seat.now.me in
    let now = c.take.new.seat.me in
    let part = c.lift-part.result.part in
    let piece = c.brought-piece.result.piece in
    let takes = c.take.ensures.takes in
    let taken = took m f place c.take.result c.back.result c.lift-part.result.key part piece me now now now takes c.lift-part.ensures.part c.lift-part.ensures.key
    c.back.ensures.key c.back.ensures.part in
    let view = view_is m f place part me now taken in
    let shards = ring.shards_is in
    let less = c.requires.place in
    let base = taken.turn.about.0 in
    let hand = subst (λ d. OnShard (IsShardInHand device d.about place) part) (sym view)
    (piece_in_hand device f me.0 place part (omega arith) base (told_of m f place part me now taken)) in
    let may = subst (MayBringOn c.args.from c.args.run.now) (sym view) (may_taking place c.args.from c.args.run.now part me.0 c.requires.may) in
    may_go m f place c.take.result c.back.result c.lift-part.result.key part piece me now now now takes c.lift-part.ensures.part c.lift-part.ensures.key
    c.back.ensures.key c.back.ensures.part refl refl (c.brought-piece.ensures.gives f now.0 (omega arith) hand may)

pub returns-clause-served : goal.returns-clause-served
returns-clause-served g c =
    let m = meaning_of g.D.Disk.device in
    let f = frame_of c.args.ring.now.table.shared.key in
    let place = c.args.place in
    let me = c.args.seat.now.me in
    let now = c.take.new.seat.me in
    let after = c.give.new.seat.me in
    let part = c.lift-part.result.part in
    let piece = c.brought-piece.result.piece in
    let takes = c.take.ensures.takes in
    (served_with m f place part piece me now after
    (took m f place c.take.result c.back.result c.lift-part.result.key part piece me now now after takes c.lift-part.ensures.part c.lift-part.ensures.key
    c.back.ensures.key c.back.ensures.part)
    (went m f place c.take.result c.back.result c.lift-part.result.key part piece me now now after takes c.lift-part.ensures.part c.lift-part.ensures.key
    c.back.ensures.key c.back.ensures.part c.give.ensures.gives) (λ shard. c.brought-piece.ensures.pins)).0

pub returns-clause-stood : goal.returns-clause-stood
returns-clause-stood g c =
    let m = meaning_of g.D.Disk.device in
    let f = frame_of c.args.ring.now.table.shared.key in
    let place = c.args.place in
    let me = c.args.seat.now.me in
    let now = c.take.new.seat.me in
    let after = c.give.new.seat.me in
    let part = c.lift-part.result.part in
    let piece = c.brought-piece.result.piece in
    let takes = c.take.ensures.takes in
    let served = served_with m f place part piece me now after
    (took m f place c.take.result c.back.result c.lift-part.result.key part piece me now now after takes c.lift-part.ensures.part c.lift-part.ensures.key
    c.back.ensures.key c.back.ensures.part)
    (went m f place c.take.result c.back.result c.lift-part.result.key part piece me now now after takes c.lift-part.ensures.part c.lift-part.ensures.key
    c.back.ensures.key c.back.ensures.part c.give.ensures.gives) (λ shard. c.brought-piece.ensures.pins) in
    on_ok c.brought-piece.result.done
    (λ (front : (state_in piece).front ≡ c.args.from + length c.args.run.now).
    subst (λ n. Contains after.0.stake.stood (record { place = place; front = n })) front served.1) c.brought-piece.ensures.front
