-- `view`: a view was taken and stands at its place, or the seat was stopped.
use Rattle.std.proofs.Common.{refl, sym, ap, length, ◌∙◌, ◌||◌, arith, subst}
use Rattle.std.proofs.lemmas.List.{with_items_is}
use Rattle.go_rule.specs.Views.{frame_of}
use Rattle.go_turns.proofs.Going.{gone_further}
use Rattle.go_api.specs.Calls.{IsStopped}
use Rattle.go_api.specs.declared.place.Place.TheVariants as places
use Rattle.go_live.specs.Handles.{is_disk, IsHandle, kept_of, stands_in}
use Rattle.go_live.proofs.Handling.{same_number, handle_still, met_now, met_seen, met_stays}
use Rattle.go_live.proofs.Onward.{sees_more}
use Rattle.go_live.proofs.PlaceHandles.{put_handle, put_viewed}
use Rattle.go_live.proofs.Places.{place_within}
use Rattle.go_live.proofs.Steady.{sees_still}
use Rattle.go_live.proofs.ViewsTaken.{may_hold_taken, taken_flagged, taken_gone, taken_stays}
use Rattle.go_live.proofs.handle.Handle.view.Goals as goal

pub returns-in-Ok-clause-is : goal.returns-in-Ok-clause-is
returns-in-Ok-clause-is g c =
    let t = c.args.ring.now.table.shared in
    let f = frame_of t.key in
    let h = c.args.self.now in
    let d = h.seat.me.0 in
    let e = c.take_view-taken.new.seat.me.0 in
    let taken = c.in-Ok.ensures.takes in
    let long = c.in-Ok.ensures.sees in
    let within = taken.is.shows.within in
    let floor = taken.floor_to in
    let front = c.front-front.ensures in
    put_handle t.table_id t.key h _ c.args.place _ e
    (record {
      table_is = c.refresh.ensures.stays.0 ∙ c.in-Ok.ensures.stays.0;
      id_is = c.refresh.ensures.stays.1 ∙ c.in-Ok.ensures.stays.1;
      hand = c.refresh.ensures.hand ∙ c.in-Ok.ensures.hand;
      words = (let long = c.take_view-taken.auto.buf in let value = ap length c.deref_mut.ensures.value in let len = c.deref_mut.ensures.len in
          ap length (with_items_is h.words c.take_view-taken.new.buf (omega arith)) ∙ same_number (length c.take_view-taken.new.buf) (length h.words.items) (omega arith));
      numbers = (refl, refl);
      next = refl;
      met = refl;
      held = c.put_at.ensures;
      moved = taken.pins.moved;
      on = c.refresh.ensures.on;
    })
    (record {
      within = place_within h.held.items c.args.place _ c.requires.free;
      more = omega (arith, c.least-least.ensures);
      sees = record { seen = omega arith; there = omega arith };
      shows = omega arith;
      stays = λ j view ne there. taken_stays t.key c.args.ring.now.shards c.args.ring.now.shards_is d e c.in-Ok.view taken.pins view;
      may = may_hold_taken t.key c.args.ring.now.shards c.args.ring.now.shards_is d e c.least-least.result c.args.place h.seen h.held.items c.in-Ok.view taken
          c.requires.is.steady.kept.places;
      knows = c.refresh.ensures.knows c.front-front.result (omega arith);
    })
    c.requires.is

pub returns-in-Ok-clause-views : goal.returns-in-Ok-clause-views
returns-in-Ok-clause-views g c =
    let t = c.args.ring.now.table.shared in
    let f = frame_of t.key in
    let h = c.args.self.now in
    let d = h.seat.me.0 in
    let e = c.take_view-taken.new.seat.me.0 in
    let taken = c.in-Ok.ensures.takes in
    let long = c.in-Ok.ensures.sees in
    let within = taken.is.shows.within in
    let floor = taken.floor_to in
    let front = c.front-front.ensures in
    put_viewed t.table_id t.key h (record h { seat = c.refresh.new.seat; held = c.put_at.new.held; seen = c.front-front.result }) c.args.place _ e
    (record {
      table_is = c.refresh.ensures.stays.0 ∙ c.in-Ok.ensures.stays.0;
      id_is = c.refresh.ensures.stays.1 ∙ c.in-Ok.ensures.stays.1;
      hand = c.refresh.ensures.hand ∙ c.in-Ok.ensures.hand;
      words = refl;
      numbers = (refl, refl);
      next = refl;
      met = refl;
      held = c.put_at.ensures;
      moved = taken.pins.moved;
      on = c.refresh.ensures.on;
    })
    (record {
      within = place_within h.held.items c.args.place _ c.requires.free;
      more = omega (arith, c.least-least.ensures);
      sees = record { seen = omega arith; there = omega arith };
      shows = omega arith;
      stays = λ j view ne there. taken_stays t.key c.args.ring.now.shards c.args.ring.now.shards_is d e c.in-Ok.view taken.pins view;
      may = may_hold_taken t.key c.args.ring.now.shards c.args.ring.now.shards_is d e c.least-least.result c.args.place h.seen h.held.items c.in-Ok.view taken
          c.requires.is.steady.kept.places;
      knows = c.refresh.ensures.knows c.front-front.result (omega arith);
    })
    c.requires.is c.front-front.result (ap (λ n. places.View n) (sym front)) (omega (arith, c.least-least.ensures))
    (omega (arith, c.least-least.ensures)) (omega arith)

pub returns-in-Err-clause-is : goal.returns-in-Err-clause-is
returns-in-Err-clause-is g c =
    let t = c.args.ring.now.table.shared in
    let f = frame_of t.key in
    let h = c.args.self.now in
    let d = h.seat.me.0 in
    let then = c.take_view-taken.new.seat.me in
    let last = c.refresh.new.seat.me.0 in
    let on = taken_gone f t.table_id.slots c.args.ring.now.shards c.least-least.result c.in-Err.why h.seat.me then c.in-Err.ensures.takes in
    let all = gone_further f d then.0 last on c.refresh.ensures.on in
    let to = c.requires.is.steady.kept.fronts.to in
    subst (IsHandle t.table_id t.key) (sym c.note.ensures)
    (handle_still t.table_id t.key h _
    (record {
      table_is = c.refresh.ensures.stays.0 ∙ c.in-Err.ensures.stays.0;
      id_is = c.refresh.ensures.stays.1 ∙ c.in-Err.ensures.stays.1;
      hand = c.refresh.ensures.hand ∙ c.in-Err.ensures.hand;
      words = (let long = c.take_view-taken.auto.buf in let value = ap length c.deref_mut.ensures.value in let len = c.deref_mut.ensures.len in
          ap length (with_items_is h.words c.take_view-taken.new.buf (omega arith)) ∙ same_number (length c.take_view-taken.new.buf) (length h.words.items) (omega arith));
      numbers = (refl, refl);
      next = refl;
      held = refl;
    })
    all (omega arith) c.requires.is
    (sees_still h.seen d last all.knows to)
    (c.refresh.ensures.knows h.seen (sees_still h.seen d then.0 on.knows to).seen)
    (met_seen h.met last c.in-Err.why (λ met. all.knows.flagged (c.requires.is.steady.kept.met met))
    (λ disk. c.refresh.ensures.on.knows.flagged
    (taken_flagged f t.table_id.slots c.args.ring.now.shards c.least-least.result c.in-Err.why h.seat.me then c.in-Err.ensures.takes disk))))

pub returns-in-Err-clause-views : goal.returns-in-Err-clause-views
returns-in-Err-clause-views g c =
    let t = c.args.ring.now.table.shared in
    let f = frame_of t.key in
    let h = c.args.self.now in
    let d = h.seat.me.0 in
    let then = c.take_view-taken.new.seat.me in
    let last = c.refresh.new.seat.me.0 in
    let on = taken_gone f t.table_id.slots c.args.ring.now.shards c.least-least.result c.in-Err.why h.seat.me then c.in-Err.ensures.takes in
    let all = gone_further f d then.0 last on c.refresh.ensures.on in
    let to = c.requires.is.steady.kept.fronts.to in
    let now = record (kept_of h) { met = h.met || is_disk c.in-Err.why } in
    subst (λ k. IsStopped c.in-Err.why (stands_in t.key h) (stands_in t.key k)) (sym c.note.ensures)
    (record {
      sees = sees_more t.key.layout.ring (kept_of h) now d last f all (omega arith) to.there (sees_still h.seen d last all.knows to).there
          (met_stays h.met c.in-Err.why) refl;
      met = met_now h.met c.in-Err.why;
    })
