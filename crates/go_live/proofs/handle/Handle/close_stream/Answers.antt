-- `close_stream`: the place is free.
use Rattle.std.proofs.Common.{refl, arith}
use Rattle.go_rule.specs.Views.{frame_of}
use Rattle.go_turns.proofs.Going.{gone_nowhere}
use Rattle.go_views.proofs.EachTurn.{moved_going}
use Rattle.go_live.proofs.PlaceHandles.{put_handle, put_stands}
use Rattle.go_live.proofs.Places.{may_hold_free, place_within}
use Rattle.go_live.proofs.handle.Handle.close_stream.Goals as goal

pub returns-clause-is : goal.returns-clause-is
returns-clause-is g c =
    let t = c.args.ring.now.table.shared in
    let f = frame_of t.key in
    let h = c.args.self.now in
    let d = h.seat.me.0 in
    put_handle t.table_id t.key h _ c.args.place _ d
    (record {
      table_is = c.refresh.ensures.stays.0;
      id_is = c.refresh.ensures.stays.1;
      hand = c.refresh.ensures.hand;
      words = refl;
      numbers = (refl, refl);
      next = refl;
      met = refl;
      held = c.take_from.ensures.free;
      moved = moved_going f d d (gone_nowhere f d);
      on = c.refresh.ensures.on;
    })
    (record {
      within = place_within h.held.items c.args.place _ c.requires.held.1;
      more = omega arith;
      sees = c.requires.is.steady.kept.fronts.to;
      shows = tt;
      stays = λ j view ne there was. was;
      may = may_hold_free t.key.layout.shards d h.held.items c.args.place;
      knows = c.refresh.ensures.knows h.seen c.requires.is.steady.kept.fronts.to.seen;
    })
    c.requires.is

pub returns-clause-frees : goal.returns-clause-frees
returns-clause-frees g c =
    let t = c.args.ring.now.table.shared in
    let f = frame_of t.key in
    let h = c.args.self.now in
    let d = h.seat.me.0 in
    put_stands t.table_id t.key h (record h { seat = c.refresh.new.seat; held = c.take_from.new.held }) c.args.place _ d
    (record {
      table_is = c.refresh.ensures.stays.0;
      id_is = c.refresh.ensures.stays.1;
      hand = c.refresh.ensures.hand;
      words = refl;
      numbers = (refl, refl);
      next = refl;
      met = refl;
      held = c.take_from.ensures.free;
      moved = moved_going f d d (gone_nowhere f d);
      on = c.refresh.ensures.on;
    })
    (record {
      within = place_within h.held.items c.args.place _ c.requires.held.1;
      more = omega arith;
      sees = c.requires.is.steady.kept.fronts.to;
      shows = tt;
      stays = λ j view ne there was. was;
      may = may_hold_free t.key.layout.shards d h.held.items c.args.place;
      knows = c.refresh.ensures.knows h.seen c.requires.is.steady.kept.fronts.to.seen;
    })
    c.requires.is
