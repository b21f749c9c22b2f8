-- `sync`: the session is shown the durable front, or the flag was seen raised.
use Rattle.std.proofs.Common.{refl, sym, ◌∙◌, ◌||◌, arith, subst}
use Rattle.go_rule.specs.Views.{frame_of}
use Rattle.go_turns.proofs.Going.{gone_further}
use Rattle.go_live.specs.Handles.{is_disk, IsHandle}
use Rattle.go_live.proofs.Handling.{handle_still, met_still}
use Rattle.go_live.proofs.Steady.{sees_still}
use Rattle.go_live.proofs.handle.Handle.sync.Goals as goal

pub returns-in-Ok-clause-is : goal.returns-in-Ok-clause-is
returns-in-Ok-clause-is g c =
    let t = c.args.ring.now.table.shared in
    let f = frame_of t.key in
    let d = c.args.self.now.seat.me.0 in
    let then = c.wait_for_durable-durable.new.seat.me.0 in
    let last = c.refresh.new.seat.me.0 in
    let comes = c.in-Ok.ensures.comes in
    handle_still t.table_id t.key c.args.self.now _
    (record {
      table_is = c.refresh.ensures.stays.0 ∙ c.in-Ok.ensures.stays.0;
      id_is = c.refresh.ensures.stays.1 ∙ c.in-Ok.ensures.stays.1;
      hand = c.refresh.ensures.hand ∙ c.in-Ok.ensures.hand;
      words = refl;
      numbers = (refl, refl);
      next = refl;
      held = refl;
    })
    (gone_further f d then last c.in-Ok.ensures.on c.refresh.ensures.on)
    (let least = comes.0 in omega (arith, c.least-least.ensures))
    c.requires.is
    (sees_still c.in-Ok.front then last c.refresh.ensures.on.knows comes.1)
    (c.refresh.ensures.knows c.in-Ok.front comes.1.seen)
    (met_still c.args.self.now.met d last (gone_further f d then last c.in-Ok.ensures.on c.refresh.ensures.on).knows c.requires.is.steady.kept.met)

pub returns-in-Err-clause-is : goal.returns-in-Err-clause-is
returns-in-Err-clause-is g c =
    let t = c.args.ring.now.table.shared in
    let f = frame_of t.key in
    let h = c.args.self.now in
    let d = h.seat.me.0 in
    let then = c.wait_for_durable-durable.new.seat.me.0 in
    let last = c.refresh.new.seat.me.0 in
    let on = gone_further f d then last c.in-Err.ensures.on c.refresh.ensures.on in
    let to = c.requires.is.steady.kept.fronts.to in
    subst (IsHandle t.table_id t.key) (sym c.note.ensures)
    (handle_still t.table_id t.key h (record h { seat = c.refresh.new.seat; met = h.met || is_disk c.in-Err.why })
    (record {
      table_is = c.refresh.ensures.stays.0 ∙ c.in-Err.ensures.stays.0;
      id_is = c.refresh.ensures.stays.1 ∙ c.in-Err.ensures.stays.1;
      hand = c.refresh.ensures.hand ∙ c.in-Err.ensures.hand;
      words = refl;
      numbers = (refl, refl);
      next = refl;
      held = refl;
    })
    on (omega arith) c.requires.is
    (sees_still h.seen d last on.knows to)
    (c.refresh.ensures.knows h.seen (sees_still h.seen d then c.in-Err.ensures.on.knows to).seen)
    (λ met. c.refresh.ensures.on.knows.flagged c.in-Err.ensures.stops))
