-- `settle_each`: one pin more stands at the archived front, and its shard's counts are listed.
use Rattle.std.proofs.Common.{rules, Err, ◌≡◌, ◌≤◌, ◌+◌, ◌*◌, ◌/◌, length, take, sym, ap, ◌∙◌, arith, subst}
use Rattle.go_core.specs.declared.view.View.{View}
use Rattle.go_core.specs.Parts.{IsShardPlace}
use Rattle.go_rule.specs.declared.view.Told.{Told}
use Rattle.go_rule.specs.Views.{frame_of}
use Rattle.go_views.specs.Pins.{HasShifted, HasSettledEach, pin_of}
use Rattle.go_views.specs.Settling.{AreRaw}
use Rattle.go_views.proofs.CountsListed.{AreListedTo, listed_next, listed_all, counted_all}
use Rattle.go_views.proofs.EachTurn.{served_next, name_left, pins_left}
use Rattle.go_views.proofs.PinsBecome.{shifted_of}
use Rattle.go_views.proofs.settling.settle_each.Goals as goal

pub settle_place-requires-clause-named : goal.settle_place-requires-clause-named
settle_place-requires-clause-named g c =
    let ring = c.args.ring.now in
    let f = frame_of ring.table.shared.key in
    let names = c.args.names.now in
    let archived = c.args.archived in
    let place = c.loop-place.place in
    let shards = ring.shards_is in
    let all = c.requires.shards.0 in
    let less = c.loop-place-test.true in
    let here : IsShardPlace f place = omega arith in
    name_left f names c.args.seat.now.me.0 c.loop-place.seat.me.0 place (λ k. HasShifted (pin_of names archived k)) place here (omega arith) less
    c.loop-place.invariant.3.turned c.requires.can.named

pub settle_place-requires-clause-known : goal.settle_place-requires-clause-known
settle_place-requires-clause-known g c =
    let served = c.loop-place.invariant.3 in
    let can = c.requires.can in (
      ap (λ (v : View). v.archived) served.core ∙ can.archived_is,
      subst (λ (t : Told). c.args.archived ≤ length t.seen) (sym served.told) can.seen,
    )

pub settle_place-requires-clause-upwards : goal.settle_place-requires-clause-upwards
settle_place-requires-clause-upwards g c =
    let ring = c.args.ring.now in
    let f = frame_of ring.table.shared.key in
    let names = c.args.names.now in
    let archived = c.args.archived in
    let place = c.loop-place.place in
    let shards = ring.shards_is in
    let all = c.requires.shards.0 in
    let less = c.loop-place-test.true in
    let here : IsShardPlace f place = omega arith in
    pins_left f c.args.seat.now.me.0 c.loop-place.seat.me.0 place (λ k. HasShifted (pin_of names archived k)) place archived here (omega arith)
    c.loop-place.invariant.3.turned c.requires.can.at_most

pub loop-place-preserved : goal.loop-place-preserved
loop-place-preserved g c =
    let ring = c.args.ring.now in
    let f = frame_of ring.table.shared.key in
    let names = c.args.names.now in
    let archived = c.args.archived in
    let place = c.loop-place.place in
    let d = c.args.seat.now.me.0 in
    let e = c.loop-place.seat.me.0 in
    let inv = c.loop-place.invariant in
    let done = c.in_ok-settle_place.ensures in
    let shards = ring.shards_is in
    let all = c.requires.shards.0 in
    let some = c.requires.shards.1 in
    let less = c.loop-place-test.true in
    let here : IsShardPlace f place = omega arith in
    let log = take archived d.told.seen in
    let told : e.told ≡ d.told = inv.3.told in
    let vertices : e.about.vertices ≡ d.about.vertices = ap (λ z. z.about.vertices) inv.3.turned.moved.rest in
    let raws = subst (λ n. AreRaw ring.shards n place log done.counted.0) vertices
    (subst (λ (t : Told). AreRaw ring.shards e.about.vertices place (take archived t.seen) done.counted.0) told done.counted.2) in (
      done.stays.0 ∙ inv.0,
      done.stays.1 ∙ inv.1,
      done.settled.hand ∙ inv.2,
      served_next f place (λ k. HasShifted (pin_of names archived k)) d c.loop-place.seat.me c.settle_place.new.seat.me here (shifted_of (pin_of names archived place)) inv.3
          done.settled,
      subst (AreListedTo ring.shards d.about.vertices (place + 1) log) (sym done.counted.1)
          (listed_next ring.shards d.about.vertices some log place c.loop-place.list.items done.counted.0 inv.4 raws),
      omega arith,
    )

pub new-requires-clause-whole : goal.new-requires-clause-whole
new-requires-clause-whole g c =
    let ring = c.args.ring.now in
    let d = c.args.seat.now.me.0 in
    let names = c.args.names.now in
    let list = c.loop-place.list.items in
    let log = take c.args.archived d.told.seen in
    let all = c.requires.shards.0 in
    let some = c.requires.shards.1 in
    let past = c.loop-place-test.false in
    let inv = c.loop-place.invariant in
    let within = inv.5 in
    let end : c.loop-place.place ≡ ring.shards = omega arith in
    let listed = subst (λ n. AreListedTo ring.shards d.about.vertices n log list) end inv.4 in
    let long : c.len.result ≡ length list = omega (arith, c.len.ensures, c.loop-place.list.ok.0) in
    (listed_all ring.shards d.about.vertices some log list listed).0
    ∙ ap (λ n. n * (length list / n)) (sym all)
    ∙ ap (λ n. length names * (n / length names)) (sym long)

pub returns-clause-settled : goal.returns-clause-settled
returns-clause-settled g c =
    let ring = c.args.ring.now in
    let f = frame_of ring.table.shared.key in
    let d = c.args.seat.now.me.0 in
    let names = c.args.names.now in
    let archived = c.args.archived in
    let list = c.loop-place.list.items in
    let all = c.requires.shards.0 in
    let some = c.requires.shards.1 in
    let past = c.loop-place-test.false in
    let inv = c.loop-place.invariant in
    let within = inv.5 in
    let end : c.loop-place.place ≡ ring.shards = omega arith in
    let listed = subst (λ n. AreListedTo ring.shards d.about.vertices n (take archived d.told.seen) list) end inv.4 in
    let long : c.len.result ≡ length list = omega (arith, c.len.ensures, c.loop-place.list.ok.0) in (
      subst (λ n. HasSettledEach f n names archived d c.loop-place.seat.me.0) end inv.3,
      counted_all d ring.shards archived (length names) c.len.result list c.new.result some all long c.new.ensures.is c.new.ensures.few listed,
    )

pub returns-in_err-settle_place-clause-settled : goal.returns-in_err-settle_place-clause-settled
returns-in_err-settle_place-clause-settled g c =
    let ring = c.args.ring.now in
    let f = frame_of ring.table.shared.key in
    let names = c.args.names.now in
    let place = c.loop-place.place in
    let shards = ring.shards_is in
    let all = c.requires.shards.0 in
    let less = c.loop-place-test.true in
    let here : IsShardPlace f place = omega arith in
    let refusal : c.from_residual.result ≡ Err c.in_err-settle_place.field-0.0 = search rules in
    rw refusal (
      place + 1,
      omega arith,
      served_next f place (λ k. HasShifted (pin_of names c.args.archived k)) c.args.seat.now.me.0 c.loop-place.seat.me c.settle_place.new.seat.me here
          (shifted_of (pin_of names c.args.archived place)) c.loop-place.invariant.3 c.in_err-settle_place.ensures.settled,
    )
