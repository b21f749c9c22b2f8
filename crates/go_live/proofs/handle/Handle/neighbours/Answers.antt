-- `neighbours`: the view at the place told them, and the seat has gone on.
use Rattle.std.proofs.Common.{refl, ap, take, ◌∙◌, arith, subst, sym}
use Rattle.go_rule.specs.Views.{frame_of}
use Rattle.go_turns.proofs.Going.{gone_further}
use Rattle.go_live.specs.Handles.{kept_of}
use Rattle.go_views.specs.Views.{IsView}
use Rattle.go_live.proofs.Handling.{handle_still, met_still}
use Rattle.go_live.proofs.Onward.{read_more}
use Rattle.go_live.proofs.Places.{front_there, held_there, listed_shown, view_within}
use Rattle.go_live.proofs.Steady.{sees_still}
use Rattle.go_live.proofs.handle.Handle.neighbours.Goals as goal

pub neighbours-listed-requires-clause-view : goal.neighbours-listed-requires-clause-view
neighbours-listed-requires-clause-view g c =
    let h = c.args.self.now in
    subst (λ n. IsView n c.in-View.view h.seat.me.0) (sym c.args.ring.now.shards_is)
    (c.requires.is.steady.kept.places.views c.args.place c.in-View.view
    (held_there h.held.items c.args.place c.index.result.now c.in-View.view _ c.requires.can.held c.index.ensures c.in-View.is))

pub returns-in-Ok-clause-is : goal.returns-in-Ok-clause-is
returns-in-Ok-clause-is g c =
    let t = c.args.ring.now.table.shared in
    let f = frame_of t.key in
    let h = c.args.self.now in
    let d = h.seat.me.0 in
    let then = c.neighbours-listed.new.seat.me.0 in
    let last = c.refresh.new.seat.me.0 in
    let listed = c.neighbours-listed.ensures in
    let all = gone_further f d then last listed.on c.refresh.ensures.on in
    let to = c.requires.is.steady.kept.fronts.to in
    handle_still t.table_id t.key h _
    (record {
      table_is = c.refresh.ensures.stays.0 ∙ listed.stays.0;
      id_is = c.refresh.ensures.stays.1 ∙ listed.stays.1;
      hand = c.refresh.ensures.hand ∙ listed.hand;
      words = refl;
      numbers = (refl, refl);
      next = refl;
      held = refl;
    })
    all (omega arith) c.requires.is
    (sees_still h.seen d last all.knows to)
    (c.refresh.ensures.knows h.seen (sees_still h.seen d then listed.on.knows to).seen)
    (met_still h.met d last all.knows c.requires.is.steady.kept.met)

pub returns-in-Err-clause-is : goal.returns-in-Err-clause-is
returns-in-Err-clause-is g c =
    let t = c.args.ring.now.table.shared in
    let f = frame_of t.key in
    let h = c.args.self.now in
    let d = h.seat.me.0 in
    let then = c.neighbours-listed.new.seat.me.0 in
    let last = c.refresh.new.seat.me.0 in
    let listed = c.neighbours-listed.ensures in
    let all = gone_further f d then last listed.on c.refresh.ensures.on in
    let to = c.requires.is.steady.kept.fronts.to in
    handle_still t.table_id t.key h _
    (record {
      table_is = c.refresh.ensures.stays.0 ∙ listed.stays.0;
      id_is = c.refresh.ensures.stays.1 ∙ listed.stays.1;
      hand = c.refresh.ensures.hand ∙ listed.hand;
      words = refl;
      numbers = (refl, refl);
      next = refl;
      held = refl;
    })
    all (omega arith) c.requires.is
    (sees_still h.seen d last all.knows to)
    (c.refresh.ensures.knows h.seen (sees_still h.seen d then listed.on.knows to).seen)
    (met_still h.met d last all.knows c.requires.is.steady.kept.met)

pub returns-in-Ok-clause-lists : goal.returns-in-Ok-clause-lists
returns-in-Ok-clause-lists g c =
    let t = c.args.ring.now.table.shared in
    let f = frame_of t.key in
    let h = c.args.self.now in
    let d = h.seat.me.0 in
    let then = c.neighbours-listed.new.seat.me.0 in
    let last = c.refresh.new.seat.me.0 in
    let listed = c.neighbours-listed.ensures in
    let all = gone_further f d then last listed.on c.refresh.ensures.on in
    let there = held_there h.held.items c.args.place c.index.result.now c.in-View.view _ c.requires.can.held c.index.ensures c.in-View.is in (
      read_more t.key.layout.ring (kept_of h) d last f all (c.refresh.ensures.told ∙ listed.told) c.requires.is.steady.kept.fronts.to.there,
      λ front shown.
          listed_shown d.told.seen h.seen front c.in-View.view.front c.args.vertex c.neighbours-listed.new.out.items
          (front_there h.held.items c.args.place front c.in-View.view there shown)
          (view_within h.seen h.held.items c.args.place front c.requires.is.steady.kept.places.shown shown) c.in-Ok.ensures.list,
    )
