-- `bring_on`: the part that was taken is given back lawfully.
use Rattle.std.proofs.Common.{◌≡◌, ap, ◌∙◌, sym, arith}
use Rattle.std.specs.Prelude.{Some, max}
use Rattle.std.proofs.lemmas.Option.{same_Some}
use Rattle.go_core.specs.declared.part.PartState.{PartState}
use Rattle.go_rule.specs.Turns.{taking, CanGive}
use Rattle.go_rule.specs.Views.{frame_of}
use Rattle.go_rule.proofs.Samples.{plain_meaning}
use Rattle.go_rule.proofs.TurnCalls.{headed, value_is, part_taken, slot_taken, has_part}
use Rattle.go_ring.proofs.Workers.{worker_can, brought}
use Rattle.go_bench.proofs.ring_worker.bring_on.Goals as goal

pub exchange-requires : goal.exchange-requires
exchange-requires c =
    let f = frame_of c.args.ring.now.table.shared.key in
    let place = c.args.place in
    let me = c.args.seat.now.me in
    let now = c.take_turn.new.seat.me in
    let t = part_taken plain_meaning f place me c.take_turn.result now c.take_turn.ensures.tells (omega arith) in
    (c.take_turn.ensures.stays.0 ∙ c.requires.at.0, (Some t.part, slot_taken plain_meaning f place me now t))

pub give_turn-requires-clause-has : goal.give_turn-requires-clause-has
give_turn-requires-clause-has c =
    let shards = c.args.ring.now.shards_is in
    let is_one = c.requires.shards in
    let f = frame_of c.args.ring.now.table.shared.key in
    let place = c.args.place in
    let me = c.args.seat.now.me in
    let now = c.take_turn.new.seat.me in
    let then = c.exchange-left.new.seat.me in
    let old : PartState = c.in-Some.part in
    let new : PartState = record { front = c.max.result; cut = old.cut; pins = old.pins } in
    let t = part_taken plain_meaning f place me c.take_turn.result now c.take_turn.ensures.tells (omega arith) in
    let one = c.exchange.ensures in
    let two = c.exchange-left.ensures in
    let out : Some t.part ≡ c.exchange.result = value_is (Some t.part) c.exchange.result now.1 _ _ (slot_taken plain_meaning f place me now t) one.2 in
    let part : t.part ≡ old = same_Some t.part old (out ∙ c.in-Some.is) in
    let can : CanGive plain_meaning f (taking place t.part me.0) place t.part new =
    worker_can f (omega arith) me.0 place c.args.front c.requires.worker t.part new t.taken (ap (λ p. p.cut) (sym part)) (ap (λ p. p.pins) (sym part))
    (c.max.ensures ∙ ap (λ p. max p.front c.args.front) (sym part))
    in
    has_part plain_meaning f place me now then t new (ap (λ z. z.0) two.3 ∙ ap (λ z. z.0) one.3)
    (headed then.1 _ (place, Some new) (ap (λ z. z.1) two.3)) can

pub returns-clause-brought : goal.returns-clause-brought
returns-clause-brought c yes' =
    let shards = c.args.ring.now.shards_is in
    let is_one = c.requires.shards in
    let f = frame_of c.args.ring.now.table.shared.key in
    let place = c.args.place in
    let me = c.args.seat.now.me in
    let now = c.take_turn.new.seat.me in
    let then = c.exchange-left.new.seat.me in
    let last = c.give_turn.new.seat.me in
    let old : PartState = c.in-Some.part in
    let new : PartState = record { front = c.max.result; cut = old.cut; pins = old.pins } in
    let t = part_taken plain_meaning f place me c.take_turn.result now c.take_turn.ensures.tells (omega arith) in
    let one = c.exchange.ensures in
    let two = c.exchange-left.ensures in
    let out : Some t.part ≡ c.exchange.result = value_is (Some t.part) c.exchange.result now.1 _ _ (slot_taken plain_meaning f place me now t) one.2 in
    let part : t.part ≡ old = same_Some t.part old (out ∙ c.in-Some.is) in
    brought f (omega arith) place c.args.front me now then last t new c.requires.worker (ap (λ z. z.0) two.3 ∙ ap (λ z. z.0) one.3)
    (headed then.1 _ (place, Some new) (ap (λ z. z.1) two.3)) (c.max.ensures ∙ ap (λ p. max p.front c.args.front) (sym part)) c.give_turn.ensures.tells
