-- `pin`: the shard that was taken is given back lawfully.
use Rattle.std.proofs.Common.{◌∙◌, sym, arith, subst}
use Rattle.go_core.specs.Parts.{IsShardPlace}
use Rattle.go_disk.specs.MemDisk.{mem_device}
use Rattle.go_rule.specs.Turns.{taking, IsTaken, CanGive}
use Rattle.go_rule.specs.Views.{frame_of}
use Rattle.go_rule.proofs.TurnCalls.{part_taken, lies_in, put_in, given_back}
use Rattle.go_piece.specs.Meanings.{meaning_of}
use Rattle.go_piece.proofs.ring_tests.pin.Goals as goal

pub exchange-requires : goal.exchange-requires
exchange-requires c = (
  c.take_turn.ensures.stays.0 ∙ c.requires.at.0,
  lies_in (meaning_of mem_device) (frame_of c.args.ring.now.table.shared.key) c.args.place c.args.seat.now.me c.take_turn.result c.take_turn.new.seat.me
      c.take_turn.ensures.tells c.if-take_turn-ne0.false,
)

pub give_turn-requires-clause-has : goal.give_turn-requires-clause-has
give_turn-requires-clause-has c =
    let m = meaning_of mem_device in
    let f = frame_of c.args.ring.now.table.shared.key in
    let place = c.args.place in
    let me = c.args.seat.now.me in
    let now = c.take_turn.new.seat.me in
    let out = c.exchange.ensures in
    let shards = c.args.ring.now.shards_is in
    let shard = c.requires.shard in
    let here : IsShardPlace f place = omega arith in
    let taken = part_taken m f place me c.take_turn.result now c.take_turn.ensures.tells c.if-take_turn-ne0.false in
    given_back m f place me now c.exchange-left.new.seat.me c.exchange.result c.in-Some.piece c.pinned.result taken out.2 c.in-Some.is
    (put_in now c.exchange.new.seat.me c.exchange-left.new.seat.me out.3 c.exchange-left.ensures.3)
    (λ old is part.
    subst (λ p. CanGive m f (taking place p me.0) place p c.pinned.result) (sym part)
    (c.pinned.ensures f me.0 place here taken.about.0 (subst (λ p. IsTaken m f me.0 place p) part is)))
