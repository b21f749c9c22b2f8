-- `update`: the stream gave entries and stands behind them, or it was stopped.
use Rattle.std.proofs.Common.{Some, refl, sym, ap, length, ◌∙◌, ◌||◌, arith, subst}
use Rattle.std.proofs.lemmas.List.{with_items_is}
use Rattle.go_rule.specs.Views.{frame_of}
use Rattle.go_views.proofs.EachTurn.{moved_going}
use Rattle.go_views.proofs.Staying.{view_stays_going}
use Rattle.go_api.specs.Calls.{IsStopped}
use Rattle.go_api.specs.declared.place.Place.TheVariants as places
use Rattle.go_live.specs.Going.{ServesOn}
use Rattle.go_live.specs.Handles.{is_disk, IsHandle, stands_in}
use Rattle.go_live.proofs.Handling.{same_number}
use Rattle.go_live.proofs.PlaceHandles.{put_handle, put_updated}
use Rattle.go_live.proofs.Places.{may_hold_stream, place_within, stream_there}
use Rattle.go_live.proofs.Steady.{shard_place}
use Rattle.go_live.proofs.Stopping.{stop_handle, stop_serves, stop_stands, update_stopped}
use Rattle.go_live.proofs.handle.Handle.update.Goals as goal

pub returns-in-Ok-clause-is : goal.returns-in-Ok-clause-is
returns-in-Ok-clause-is g c =
    let t = c.args.ring.now.table.shared in
    let f = frame_of t.key in
    let h = c.args.self.now in
    let e = c.update-updated.new.seat.me.0 in
    let updated = c.in-Ok.ensures.updates in
    let span = updated.span_is in
    let long = updated.long in
    let sees = span.sees in
    let floor = span.floor in
    let to = span.to in
    put_handle t.table_id t.key h _ c.args.place _ e
    (record {
      table_is = c.refresh.ensures.stays.0 ∙ c.in-Ok.ensures.stays.0;
      id_is = c.refresh.ensures.stays.1 ∙ c.in-Ok.ensures.stays.1;
      hand = c.refresh.ensures.hand ∙ c.in-Ok.ensures.hand;
      words = (let long = c.update-updated.auto.buf in let value = ap length c.deref_mut.ensures.value in let len = c.deref_mut.ensures.len in
          ap length (with_items_is h.words c.update-updated.new.buf (omega arith)) ∙ same_number (length c.update-updated.new.buf) (length h.words.items) (omega arith));
      numbers = (refl, refl);
      next = refl;
      met = refl;
      held = c.put_at.ensures;
      moved = moved_going f h.seat.me.0 e updated.on;
      on = c.refresh.ensures.on;
    })
    (record {
      within = place_within h.held.items c.args.place _ c.requires.can.held;
      more = omega (arith, c.least-least.ensures, c.max-self.ensures);
      sees = record { seen = omega (arith, c.least-least.ensures, c.max-self.ensures); there = omega (arith, c.least-least.ensures, c.max-self.ensures) };
      shows = (let at = c.in-Ok.ensures.cursor in omega (arith, c.max-self.ensures));
      stays = λ j view ne there. view_stays_going t.key.layout.shards view h.seat.me.0 e f (shard_place t.key) updated.on;
      may = may_hold_stream t.key.layout.shards e h.held.items c.args.place c.update-updated.new.self;
      knows = c.refresh.ensures.knows c.max-self.result (omega (arith, c.least-least.ensures, c.max-self.ensures));
    })
    c.requires.is

pub returns-in-Ok-clause-updates : goal.returns-in-Ok-clause-updates
returns-in-Ok-clause-updates g c =
    let t = c.args.ring.now.table.shared in
    let f = frame_of t.key in
    let h = c.args.self.now in
    let e = c.update-updated.new.seat.me.0 in
    let updated = c.in-Ok.ensures.updates in
    let span = updated.span_is in
    let long = updated.long in
    let sees = span.sees in
    let floor = span.floor in
    let to = span.to in
    put_updated t.table_id t.key h (record h { seat = c.refresh.new.seat; held = c.put_at.new.held; seen = c.max-self.result }) c.args.place _ e
    (record {
      table_is = c.refresh.ensures.stays.0 ∙ c.in-Ok.ensures.stays.0;
      id_is = c.refresh.ensures.stays.1 ∙ c.in-Ok.ensures.stays.1;
      hand = c.refresh.ensures.hand ∙ c.in-Ok.ensures.hand;
      words = refl;
      numbers = (refl, refl);
      next = refl;
      met = refl;
      held = c.put_at.ensures;
      moved = moved_going f h.seat.me.0 e updated.on;
      on = c.refresh.ensures.on;
    })
    (record {
      within = place_within h.held.items c.args.place _ c.requires.can.held;
      more = omega (arith, c.least-least.ensures, c.max-self.ensures);
      sees = record { seen = omega (arith, c.least-least.ensures, c.max-self.ensures); there = omega (arith, c.least-least.ensures, c.max-self.ensures) };
      shows = (let at = c.in-Ok.ensures.cursor in omega (arith, c.max-self.ensures));
      stays = λ j view ne there. view_stays_going t.key.layout.shards view h.seat.me.0 e f (shard_place t.key) updated.on;
      may = may_hold_stream t.key.layout.shards e h.held.items c.args.place c.update-updated.new.self;
      knows = c.refresh.ensures.knows c.max-self.result (omega (arith, c.least-least.ensures, c.max-self.ensures));
    })
    c.requires.is c.args.most span.end c.least-least.result c.in-Ok.span c.update-updated.new.out.items (ap (λ n. places.Stream n) c.in-Ok.ensures.cursor)
    (stream_there h.held.items c.args.place c.index.result.now c.in-Stream.stream _ c.requires.can.held c.index.ensures c.in-Stream.is
    ∙ ap (λ n. Some (places.Stream n)) (sym span.from))
    (omega (arith, c.least-least.ensures)) (omega (arith, c.least-least.ensures)) floor (let from = span.from in omega arith) c.max-self.ensures
    updated.gives.so_many updated.gives.file c.refresh.ensures.told

pub returns-in-Err-clause-is : goal.returns-in-Err-clause-is
returns-in-Err-clause-is g c =
    let t = c.args.ring.now.table.shared in
    let f = frame_of t.key in
    let h = c.args.self.now in
    let e = c.update-updated.new.seat.me in
    subst (IsHandle t.table_id t.key) (sym c.note.ensures)
    (stop_handle t.table_id t.key h _ e.0 c.in-Err.why
    (record {
      table_is = c.refresh.ensures.stays.0 ∙ c.in-Err.ensures.stays.0;
      id_is = c.refresh.ensures.stays.1 ∙ c.in-Err.ensures.stays.1;
      hand = c.refresh.ensures.hand ∙ c.in-Err.ensures.hand;
      words = (let long = c.update-updated.auto.buf in let value = ap length c.deref_mut.ensures.value in let len = c.deref_mut.ensures.len in
          ap length (with_items_is h.words c.update-updated.new.buf (omega arith)) ∙ same_number (length c.update-updated.new.buf) (length h.words.items) (omega arith));
      numbers = (refl, refl);
      next = refl;
      held = refl;
    })
    c.refresh.ensures.on refl refl c.refresh.ensures.knows c.requires.is
    (update_stopped g.D.Disk.device f t.table_id.slots c.in-Err.why h.seat.me e c.in-Err.ensures.updates))

pub returns-in-Err-clause-updates : goal.returns-in-Err-clause-updates
returns-in-Err-clause-updates g c =
    let t = c.args.ring.now.table.shared in
    let f = frame_of t.key in
    let h = c.args.self.now in
    let e = c.update-updated.new.seat.me in
    let now = record h { seat = c.refresh.new.seat; met = h.met || is_disk c.in-Err.why } in
    subst (λ k. IsStopped c.in-Err.why (stands_in t.key h) (stands_in t.key k)) (sym c.note.ensures)
    (stop_stands t.table_id t.key h now e.0 c.in-Err.why
    (record {
      table_is = c.refresh.ensures.stays.0 ∙ c.in-Err.ensures.stays.0;
      id_is = c.refresh.ensures.stays.1 ∙ c.in-Err.ensures.stays.1;
      hand = c.refresh.ensures.hand ∙ c.in-Err.ensures.hand;
      words = refl;
      numbers = (refl, refl);
      next = refl;
      held = refl;
    })
    c.refresh.ensures.on refl refl c.refresh.ensures.knows c.requires.is
    (update_stopped g.D.Disk.device f t.table_id.slots c.in-Err.why h.seat.me e c.in-Err.ensures.updates))

pub returns-in-Err-clause-serves : goal.returns-in-Err-clause-serves
returns-in-Err-clause-serves g c =
    let t = c.args.ring.now.table.shared in
    let f = frame_of t.key in
    let h = c.args.self.now in
    let e = c.update-updated.new.seat.me in
    subst (ServesOn h) (sym c.note.ensures)
    (stop_serves t.table_id t.key h _ e.0 c.in-Err.why
    (record {
      table_is = c.refresh.ensures.stays.0 ∙ c.in-Err.ensures.stays.0;
      id_is = c.refresh.ensures.stays.1 ∙ c.in-Err.ensures.stays.1;
      hand = c.refresh.ensures.hand ∙ c.in-Err.ensures.hand;
      words = (let long = c.update-updated.auto.buf in let value = ap length c.deref_mut.ensures.value in let len = c.deref_mut.ensures.len in
          ap length (with_items_is h.words c.update-updated.new.buf (omega arith)) ∙ same_number (length c.update-updated.new.buf) (length h.words.items) (omega arith));
      numbers = (refl, refl);
      next = refl;
      held = refl;
    })
    c.refresh.ensures.on refl refl c.refresh.ensures.knows c.requires.is
    (update_stopped g.D.Disk.device f t.table_id.slots c.in-Err.why h.seat.me e c.in-Err.ensures.updates))
