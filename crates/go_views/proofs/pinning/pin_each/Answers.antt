-- `pin_each`: one shard more was pinned, or the first ones are unpinned again.
use Rattle.std.proofs.Common.{ℕ, ◌+◌, ◌<◌, length, length-append, [], ◌∷◌, get_or, sym, ap, ◌∙◌, arith, subst}
use Rattle.go_core.specs.Parts.{IsShardPlace}
use Rattle.go_rule.specs.Views.{frame_of}
use Rattle.go_views.specs.Pins.{HasPinnedEach, HasUnpinnedEach}
use Rattle.go_views.specs.PlaceTurns.{HasNames}
use Rattle.go_views.proofs.PinsBecome.{new_name_of}
use Rattle.go_views.proofs.PlaceTurns.{gone_at}
use Rattle.go_views.proofs.EachTurn.{new_names, turned_going, names_pinned, pinned_next, gone_unpinned}
use Rattle.go_views.proofs.pinning.pin_each.Goals as goal

pub unpin_each-requires-clause-named : goal.unpin_each-requires-clause-named
unpin_each-requires-clause-named g c =
    let ring = c.args.ring.now in
    let f = frame_of ring.table.shared.key in
    let place = c.loop-place.place in
    let names = c.loop-place.names.items in
    let inv = c.loop-place.invariant in
    let d = c.args.seat.now.me.0 in
    let e = c.loop-place.seat.me.0 in
    let now = c.pin_place.new.seat.me.0 in
    let shards = ring.shards_is in
    let within = c.loop-place-test.true in
    let here : (k : ℕ) → k < place → IsShardPlace f k = λ k less. omega arith in
    let turned = turned_going f place (new_names names) here (λ k. new_name_of (get_or names k 0)) d e now inv.5.turned
    (gone_at f place c.loop-place.seat.me c.pin_place.new.seat.me c.in-Err.ensures.pinned) in
    subst (λ ns. HasNames ns now) (sym c.deref.ensures.value) (names_pinned f names d now place inv.3 turned)

pub returns-in-Err-clause-pinned : goal.returns-in-Err-clause-pinned
returns-in-Err-clause-pinned g c =
    let ring = c.args.ring.now in
    let f = frame_of ring.table.shared.key in
    let place = c.loop-place.place in
    let names = c.loop-place.names.items in
    let inv = c.loop-place.invariant in
    let d = c.args.seat.now.me.0 in
    let e = c.loop-place.seat.me.0 in
    let now = c.pin_place.new.seat.me.0 in
    let after = c.unpin_each.new.seat.me.0 in
    let shards = ring.shards_is in
    let within = c.loop-place-test.true in
    let here : (k : ℕ) → k < place → IsShardPlace f k = λ k less. omega arith in
    let turned = turned_going f place (new_names names) here (λ k. new_name_of (get_or names k 0)) d e now inv.5.turned
    (gone_at f place c.loop-place.seat.me c.pin_place.new.seat.me c.in-Err.ensures.pinned) in
    gone_unpinned f names place d now after turned
    (subst (λ n. HasUnpinnedEach f n names now after) inv.3
    (subst (λ ns. HasUnpinnedEach f (length ns) ns now after) c.deref.ensures.value c.unpin_each.ensures.unpinned))

pub loop-place-preserved : goal.loop-place-preserved
loop-place-preserved g c =
    let ring = c.args.ring.now in
    let f = frame_of ring.table.shared.key in
    let place = c.loop-place.place in
    let names = c.loop-place.names.items in
    let name = c.in-Ok.name in
    let inv = c.loop-place.invariant in
    let e = c.pin_place.ensures in
    let d = c.args.seat.now.me.0 in
    let now = c.pin_place.new.seat.me.0 in
    let push = c.push_reserved.ensures in
    let long = inv.3 in
    let room = inv.4 in
    let shards = ring.shards_is in
    let within = c.loop-place-test.true in
    let here : IsShardPlace f place = omega arith in
    let capacity = push.capacity in (
      e.stays.0 ∙ inv.0,
      e.stays.1 ∙ inv.1,
      c.in-Ok.ensures.pinned.hand ∙ inv.2,
      ap length push.items ∙ omega (arith, length-append names (name ∷ [])),
      omega arith,
      subst (λ ns. HasPinnedEach f (place + 1) ns d now) (sym push.items)
          (pinned_next f names name place d c.loop-place.seat.me c.pin_place.new.seat.me long here inv.5 c.in-Ok.ensures.pinned),
      omega arith,
    )
