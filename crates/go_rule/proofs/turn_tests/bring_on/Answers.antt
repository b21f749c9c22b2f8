-- `bring_on`: the shard that was taken is given back lawfully.
use Rattle.std.proofs.Common.{ap, ◌∙◌, sym, refl, arith}
use Rattle.go_core.specs.declared.part.PartState.{PartState}
use Rattle.go_rule.specs.Views.{frame_of}
use Rattle.go_rule.proofs.Samples.{plain_meaning}
use Rattle.go_rule.proofs.TurnCalls.{part_taken, lies_in, put_in, given_back}
use Rattle.go_rule.proofs.TurnSamples.{first_can}
use Rattle.go_rule.proofs.turn_tests.bring_on.Goals as goal

pub exchange-requires : goal.exchange-requires
exchange-requires c = (
  c.take_turn.ensures.stays.0 ∙ c.requires.at.0,
  lies_in plain_meaning (frame_of c.args.ring.now.table.shared.key) c.args.place c.args.seat.now.me c.take_turn.result c.take_turn.new.seat.me
      c.take_turn.ensures.tells (omega arith),
)

pub give_turn-requires-clause-has : goal.give_turn-requires-clause-has
give_turn-requires-clause-has c =
    let shards = c.args.ring.now.shards_is in
    let shard = c.requires.shard in
    let f = frame_of c.args.ring.now.table.shared.key in
    let place = c.args.place in
    let me = c.args.seat.now.me in
    let now = c.take_turn.new.seat.me in
    let out = c.exchange.ensures in
    let new : PartState = record { front = 1; cut = c.in-Some.part.cut; pins = c.in-Some.part.pins } in
    given_back plain_meaning f place me now c.exchange-left.new.seat.me c.exchange.result c.in-Some.part new
    (part_taken plain_meaning f place me c.take_turn.result now c.take_turn.ensures.tells (omega arith)) out.2 c.in-Some.is
    (put_in now c.exchange.new.seat.me c.exchange-left.new.seat.me out.3 c.exchange-left.ensures.3)
    (λ old taken part.
    first_can f me.0 place old new taken (omega arith) c.requires.archiver (ap (λ p. p.cut) (sym part)) (ap (λ p. p.pins) (sym part)) refl)
