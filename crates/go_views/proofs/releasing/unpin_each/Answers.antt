-- `unpin_each`: one pin more is gone.
use Rattle.std.proofs.Common.{get_or, ◌∙◌, arith}
use Rattle.go_core.specs.Parts.{IsShardPlace}
use Rattle.go_rule.specs.Views.{frame_of}
use Rattle.go_views.specs.Pins.{HasLost}
use Rattle.go_views.proofs.PinsBecome.{lost_of}
use Rattle.go_views.proofs.EachTurn.{served_next, name_left}
use Rattle.go_views.proofs.releasing.unpin_each.Goals as goal

pub unpin_place-requires-clause-named : goal.unpin_place-requires-clause-named
unpin_place-requires-clause-named g c =
    let ring = c.args.ring.now in
    let f = frame_of ring.table.shared.key in
    let names = c.args.names.now in
    let place = c.loop-place.place in
    let shards = ring.shards_is in
    let few = c.requires.shards.0 in
    let less = c.loop-place-test.true in
    let here : IsShardPlace f place = omega arith in
    name_left f names c.args.seat.now.me.0 c.loop-place.seat.me.0 place (λ k. HasLost (get_or names k 0)) place here (omega arith) less
    c.loop-place.invariant.3.turned c.requires.named

pub loop-place-preserved : goal.loop-place-preserved
loop-place-preserved g c =
    let ring = c.args.ring.now in
    let f = frame_of ring.table.shared.key in
    let names = c.args.names.now in
    let place = c.loop-place.place in
    let inv = c.loop-place.invariant in
    let e = c.unpin_place.ensures in
    let shards = ring.shards_is in
    let few = c.requires.shards.0 in
    let less = c.loop-place-test.true in
    let here : IsShardPlace f place = omega arith in (
      e.stays.0 ∙ inv.0,
      e.stays.1 ∙ inv.1,
      e.unpinned.hand ∙ inv.2,
      served_next f place (λ k. HasLost (get_or names k 0)) c.args.seat.now.me.0 c.loop-place.seat.me c.unpin_place.new.seat.me here
          (lost_of (get_or names place 0)) inv.3 e.unpinned,
      omega arith,
    )
