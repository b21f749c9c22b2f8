-- `drop_view`: the view was released, and its place is free.
use Rattle.std.proofs.Common.{refl, ap, ◌∙◌, arith, subst, sym}
use Rattle.go_rule.specs.Views.{frame_of}
use Rattle.go_live.proofs.PlaceHandles.{put_handle, put_stands}
use Rattle.go_live.proofs.Places.{may_hold_free, place_within, taken_there}
use Rattle.go_live.proofs.Steady.{sees_still}
use Rattle.go_live.proofs.ViewsTaken.{released_stays}
use Rattle.go_views.specs.Views.{IsView}
use Rattle.go_live.proofs.handle.Handle.drop_view.Goals as goal

pub release-requires-clause-is : goal.release-requires-clause-is
release-requires-clause-is g c =
    let h = c.args.self.now in
    subst (λ n. IsView n c.in-View.view h.seat.me.0) (sym c.args.ring.now.shards_is)
    (c.requires.is.steady.kept.places.views c.args.place c.in-View.view (taken_there h.held.items c.args.place _ c.in-View.view c.in-View.ensures.taken refl))

pub returns-clause-is : goal.returns-clause-is
returns-clause-is g c =
    let t = c.args.ring.now.table.shared in
    let f = frame_of t.key in
    let h = c.args.self.now in
    let d = h.seat.me.0 in
    let e = c.release.new.seat.me.0 in
    let released = c.release.ensures.released in
    let places = c.requires.is.steady.kept.places in
    let to = c.requires.is.steady.kept.fronts.to in
    let later = sees_still h.seen d e released.turned.moved.knows to in
    put_handle t.table_id t.key h _ c.args.place _ e
    (record {
      table_is = c.refresh.ensures.stays.0 ∙ c.release.ensures.stays.0;
      id_is = c.refresh.ensures.stays.1 ∙ c.release.ensures.stays.1;
      hand = c.refresh.ensures.hand ∙ c.release.ensures.hand;
      words = refl;
      numbers = (refl, refl);
      next = refl;
      met = refl;
      held = c.in-View.ensures.free;
      moved = released.turned.moved;
      on = c.refresh.ensures.on;
    })
    (record {
      within = place_within h.held.items c.args.place _ c.requires.held.1;
      more = omega arith;
      sees = later;
      shows = tt;
      stays = λ j view ne there. released_stays t.key c.args.ring.now.shards c.args.ring.now.shards_is d e c.in-View.view.names view released.turned
          (places.apart j c.args.place view c.in-View.view ne there (taken_there h.held.items c.args.place _ c.in-View.view c.in-View.ensures.taken refl));
      may = may_hold_free t.key.layout.shards e h.held.items c.args.place;
      knows = c.refresh.ensures.knows h.seen later.seen;
    })
    c.requires.is

pub returns-clause-frees : goal.returns-clause-frees
returns-clause-frees g c =
    let t = c.args.ring.now.table.shared in
    let f = frame_of t.key in
    let h = c.args.self.now in
    let d = h.seat.me.0 in
    let e = c.release.new.seat.me.0 in
    let released = c.release.ensures.released in
    let places = c.requires.is.steady.kept.places in
    let to = c.requires.is.steady.kept.fronts.to in
    let later = sees_still h.seen d e released.turned.moved.knows to in
    put_stands t.table_id t.key h (record h { seat = c.refresh.new.seat; held = c.take_from.new.held }) c.args.place _ e
    (record {
      table_is = c.refresh.ensures.stays.0 ∙ c.release.ensures.stays.0;
      id_is = c.refresh.ensures.stays.1 ∙ c.release.ensures.stays.1;
      hand = c.refresh.ensures.hand ∙ c.release.ensures.hand;
      words = refl;
      numbers = (refl, refl);
      next = refl;
      met = refl;
      held = c.in-View.ensures.free;
      moved = released.turned.moved;
      on = c.refresh.ensures.on;
    })
    (record {
      within = place_within h.held.items c.args.place _ c.requires.held.1;
      more = omega arith;
      sees = later;
      shows = tt;
      stays = λ j view ne there. released_stays t.key c.args.ring.now.shards c.args.ring.now.shards_is d e c.in-View.view.names view released.turned
          (places.apart j c.args.place view c.in-View.view ne there (taken_there h.held.items c.args.place _ c.in-View.view c.in-View.ensures.taken refl));
      may = may_hold_free t.key.layout.shards e h.held.items c.args.place;
      knows = c.refresh.ensures.knows h.seen later.seen;
    })
    c.requires.is
