-- `start_stream`: the ring was copied up to the front from which the stream goes on, or the flag was seen raised.
use Rattle.std.proofs.Common.{refl, sym, ap, length, ◌∙◌, ◌||◌, arith, subst}
use Rattle.std.proofs.lemmas.List.{with_items_is}
use Rattle.go_rule.specs.Views.{frame_of}
use Rattle.go_turns.proofs.Going.{gone_further}
use Rattle.go_views.proofs.EachTurn.{moved_going}
use Rattle.go_api.specs.Calls.{IsStopped}
use Rattle.go_api.specs.declared.place.Place.TheVariants as places
use Rattle.go_live.specs.Handles.{is_disk, IsHandle, kept_of, stands_in}
use Rattle.go_live.proofs.Handling.{same_number, flagged_on, handle_still, met_now, met_stays}
use Rattle.go_live.proofs.Onward.{sees_more}
use Rattle.go_live.proofs.PlaceHandles.{put_handle, put_started}
use Rattle.go_live.proofs.Places.{may_hold_stream, place_within}
use Rattle.go_live.proofs.Steady.{sees_still, shard_place}
use Rattle.go_views.proofs.Staying.{view_stays_going}
use Rattle.go_live.proofs.handle.Handle.start_stream.Goals as goal

pub returns-in-Ok-clause-is : goal.returns-in-Ok-clause-is
returns-in-Ok-clause-is g c =
    let t = c.args.ring.now.table.shared in
    let f = frame_of t.key in
    let h = c.args.self.now in
    let e = c.copy_up_to-copied.new.seat.me.0 in
    let comes = c.in-Ok.ensures.comes in
    let long = comes.long in
    let sees = comes.sees in
    let floor = comes.floor_to in
    put_handle t.table_id t.key h _ c.args.place _ e
    (record {
      table_is = c.refresh.ensures.stays.0 ∙ c.in-Ok.ensures.stays.0;
      id_is = c.refresh.ensures.stays.1 ∙ c.in-Ok.ensures.stays.1;
      hand = c.refresh.ensures.hand ∙ c.in-Ok.ensures.hand;
      words = (let long = c.copy_up_to-copied.auto.buf in let value = ap length c.deref_mut.ensures.value in let len = c.deref_mut.ensures.len in
          ap length (with_items_is h.words c.copy_up_to-copied.new.buf (omega arith)) ∙ same_number (length c.copy_up_to-copied.new.buf) (length h.words.items) (omega arith));
      numbers = (refl, refl);
      next = refl;
      met = refl;
      held = c.put_at.ensures;
      moved = moved_going f h.seat.me.0 e comes.on;
      on = c.refresh.ensures.on;
    })
    (record {
      within = place_within h.held.items c.args.place _ c.requires.free;
      more = omega (arith, c.least-least.ensures);
      sees = record { seen = omega arith; there = sees };
      shows = (let at = c.start-stream.ensures in omega arith);
      stays = λ j view ne there. view_stays_going t.key.layout.shards view h.seat.me.0 e f (shard_place t.key) comes.on;
      may = may_hold_stream t.key.layout.shards e h.held.items c.args.place c.start-stream.result;
      knows = c.refresh.ensures.knows c.in-Ok.copied.end (omega arith);
    })
    c.requires.is

pub returns-in-Ok-clause-starts : goal.returns-in-Ok-clause-starts
returns-in-Ok-clause-starts g c =
    let t = c.args.ring.now.table.shared in
    let f = frame_of t.key in
    let h = c.args.self.now in
    let e = c.copy_up_to-copied.new.seat.me.0 in
    let comes = c.in-Ok.ensures.comes in
    let long = comes.long in
    let sees = comes.sees in
    let floor = comes.floor_to in
    put_started t.table_id t.key h (record h { seat = c.refresh.new.seat; held = c.put_at.new.held; seen = c.in-Ok.copied.end }) c.args.place _ e
    (record {
      table_is = c.refresh.ensures.stays.0 ∙ c.in-Ok.ensures.stays.0;
      id_is = c.refresh.ensures.stays.1 ∙ c.in-Ok.ensures.stays.1;
      hand = c.refresh.ensures.hand ∙ c.in-Ok.ensures.hand;
      words = refl;
      numbers = (refl, refl);
      next = refl;
      met = refl;
      held = c.put_at.ensures;
      moved = moved_going f h.seat.me.0 e comes.on;
      on = c.refresh.ensures.on;
    })
    (record {
      within = place_within h.held.items c.args.place _ c.requires.free;
      more = omega (arith, c.least-least.ensures);
      sees = record { seen = omega arith; there = sees };
      shows = (let at = c.start-stream.ensures in omega arith);
      stays = λ j view ne there. view_stays_going t.key.layout.shards view h.seat.me.0 e f (shard_place t.key) comes.on;
      may = may_hold_stream t.key.layout.shards e h.held.items c.args.place c.start-stream.result;
      knows = c.refresh.ensures.knows c.in-Ok.copied.end (omega arith);
    })
    c.requires.is c.in-Ok.copied.end (ap (λ n. places.Stream n) c.start-stream.ensures) (omega (arith, c.least-least.ensures))
    (omega (arith, c.least-least.ensures)) (omega arith)

pub returns-in-Err-clause-is : goal.returns-in-Err-clause-is
returns-in-Err-clause-is g c =
    let t = c.args.ring.now.table.shared in
    let f = frame_of t.key in
    let h = c.args.self.now in
    let d = h.seat.me.0 in
    let then = c.copy_up_to-copied.new.seat.me in
    let last = c.refresh.new.seat.me.0 in
    let stops = c.in-Err.ensures.stops in
    let all = gone_further f d then.0 last stops.on c.refresh.ensures.on in
    let to = c.requires.is.steady.kept.fronts.to in
    subst (IsHandle t.table_id t.key) (sym c.note.ensures)
    (handle_still t.table_id t.key h _
    (record {
      table_is = c.refresh.ensures.stays.0 ∙ c.in-Err.ensures.stays.0;
      id_is = c.refresh.ensures.stays.1 ∙ c.in-Err.ensures.stays.1;
      hand = c.refresh.ensures.hand ∙ c.in-Err.ensures.hand;
      words = (let long = c.copy_up_to-copied.auto.buf in let value = ap length c.deref_mut.ensures.value in let len = c.deref_mut.ensures.len in
          ap length (with_items_is h.words c.copy_up_to-copied.new.buf (omega arith)) ∙ same_number (length c.copy_up_to-copied.new.buf) (length h.words.items) (omega arith));
      numbers = (refl, refl);
      next = refl;
      held = refl;
    })
    all (omega arith) c.requires.is
    (sees_still h.seen d last all.knows to)
    (c.refresh.ensures.knows h.seen (sees_still h.seen d then.0 stops.on.knows to).seen)
    (λ met. c.refresh.ensures.on.knows.flagged (flagged_on f t.table_id.slots c.in-Err.why h.seat.me then stops)))

pub returns-in-Err-clause-starts : goal.returns-in-Err-clause-starts
returns-in-Err-clause-starts g c =
    let t = c.args.ring.now.table.shared in
    let f = frame_of t.key in
    let h = c.args.self.now in
    let d = h.seat.me.0 in
    let then = c.copy_up_to-copied.new.seat.me.0 in
    let last = c.refresh.new.seat.me.0 in
    let stops = c.in-Err.ensures.stops in
    let all = gone_further f d then last stops.on c.refresh.ensures.on in
    let to = c.requires.is.steady.kept.fronts.to in
    let now = record (kept_of h) { met = h.met || is_disk c.in-Err.why } in
    subst (λ k. IsStopped c.in-Err.why (stands_in t.key h) (stands_in t.key k)) (sym c.note.ensures)
    (record {
      sees = sees_more t.key.layout.ring (kept_of h) now d last f all (omega arith) to.there (sees_still h.seen d last all.knows to).there
          (met_stays h.met c.in-Err.why) refl;
      met = met_now h.met c.in-Err.why;
    })
