-- `pin`: the part that was taken is given back lawfully.
use Rattle.std.proofs.Common.{◌≡◌, [], length, ap, ◌∙◌, sym, arith}
use Rattle.std.proofs.lemmas.List.{nil_from_length}
use Rattle.go_core.specs.declared.part.PartState.{PartState}
use Rattle.go_rule.specs.Views.{frame_of}
use Rattle.go_rule.proofs.Samples.{plain_meaning}
use Rattle.go_rule.proofs.TurnCalls.{part_taken, lies_in, put_in, given_back}
use Rattle.go_rule.proofs.TurnSamples.{same_can, one_can}
use Rattle.go_rule.proofs.turn_tests.pin.Goals.{then-count-eq0+in_ok-part, else-count-eq0}
use Rattle.go_rule.proofs.turn_tests.pin.Goals as goal

pub exchange-requires : goal.exchange-requires
exchange-requires c = (
  c.take_turn.ensures.stays.0 ∙ c.requires.at.0,
  lies_in plain_meaning (frame_of c.args.ring.now.table.shared.key) c.args.place c.args.seat.now.me c.take_turn.result c.take_turn.new.seat.me
      c.take_turn.ensures.tells (omega arith),
)

pub give_turn-requires-clause-has : goal.give_turn-requires-clause-has
give_turn-requires-clause-has c =
    let new : PartState = c.if-count-eq0.part in
    let me = c.args.seat.now.me in
    let shards = c.args.ring.now.shards_is in
    let shard = c.requires.shard in
    let f = frame_of c.args.ring.now.table.shared.key in
    let now = c.take_turn.new.seat.me in
    let out = c.exchange.ensures in
    given_back plain_meaning f c.args.place me now c.exchange-left.new.seat.me c.exchange.result c.in-Some.part new
    (part_taken plain_meaning f c.args.place me c.take_turn.result now c.take_turn.ensures.tells (omega arith)) out.2 c.in-Some.is
    (put_in now c.exchange.new.seat.me c.exchange-left.new.seat.me out.3 c.exchange-left.ensures.3)
    (λ old taken part.
    elim c.if-count-eq0.branch [
      | then-count-eq0+in_ok-part w ↦
          (let long = ap length c.as_slice-count.ensures in
          let empty = w.if-count-eq0.true in
          let none : c.in-Some.part.pins ≡ [] = nil_from_length c.in-Some.part.pins (omega arith) in
          one_can f me.0 c.args.place old new taken (omega arith) (ap (λ p. p.front) w.part-is ∙ ap (λ p. p.front) (sym part))
          (ap (λ p. p.cut) w.part-is ∙ ap (λ p. p.cut) (sym part))
          (record { id = c.args.id; front = c.in-Some.part.cut }) (ap (λ p. p.pins) part ∙ none) (ap (λ p. p.pins) w.part-is ∙ w.in_ok-part.ensures)
          (ap (λ p. p.cut) (sym part)))
      | else-count-eq0 w ↦
          (let same : new ≡ old = w.part-is ∙ sym part in
          same_can f me.0 c.args.place old new taken (omega arith) (ap (λ p. p.front) same) (ap (λ p. p.cut) same) (ap (λ p. p.pins) same))
    ])
