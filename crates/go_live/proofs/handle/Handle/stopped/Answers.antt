-- `stopped`: the flag was loaded, and the log's length.
use Rattle.std.proofs.Common.{refl, sym, ap, ◌∙◌, ◌||◌, arith, subst}
use Rattle.atomic_table.specs.Table.{step}
use mathlib.Core.Option.{none}
use Rattle.go_rule.specs.Views.{frame_of}
use Rattle.go_ring.specs.Calls.{flag_of}
use Rattle.go_turns.proofs.Going.{gone_flag, gone_further}
use Rattle.go_live.specs.Handles.{is_disk, IsHandle}
use Rattle.go_live.proofs.Handling.{handle_still, met_still}
use Rattle.go_live.proofs.SeatLooks.{saw_flag}
use Rattle.go_live.proofs.Steady.{sees_still}
use Rattle.go_live.proofs.handle.Handle.stopped.Goals as goal

pub returns-in-Some-clause-is : goal.returns-in-Some-clause-is
returns-in-Some-clause-is g c =
    let t = c.args.ring.now.table.shared in
    let f = frame_of t.key in
    let h = c.args.self.now in
    let d = h.seat.me.0 in
    let then = c.flag-why.new.seat.me in
    let last = c.refresh.new.seat.me.0 in
    let flag = c.flag-why.ensures in
    let on = gone_flag f (step t.table_id.slots 3 0 0 none) h.seat.me then (flag_of c.flag-why.result) flag.tells in
    let all = gone_further f d then.0 last on c.refresh.ensures.on in
    let to = c.requires.is.steady.kept.fronts.to in
    subst (IsHandle t.table_id t.key) (sym c.note.ensures)
    (handle_still t.table_id t.key h (record h { seat = c.refresh.new.seat; met = h.met || is_disk c.in-Some.why })
    (record {
      table_is = c.refresh.ensures.stays.0 ∙ flag.stays.0;
      id_is = c.refresh.ensures.stays.1 ∙ flag.stays.1;
      hand = c.refresh.ensures.hand ∙ ap (λ z. z.1) flag.tells.becomes;
      words = refl;
      numbers = (refl, refl);
      next = refl;
      held = refl;
    })
    all (omega arith) c.requires.is
    (sees_still h.seen d last all.knows to)
    (c.refresh.ensures.knows h.seen (sees_still h.seen d then.0 on.knows to).seen)
    (λ met. c.refresh.ensures.on.knows.flagged
    (saw_flag (step t.table_id.slots 3 0 0 none) h.seat.me then c.in-Some.why c.in-Some.ensures.tells)))

pub returns-in_default-clause-is : goal.returns-in_default-clause-is
returns-in_default-clause-is g c =
    let t = c.args.ring.now.table.shared in
    let f = frame_of t.key in
    let h = c.args.self.now in
    let d = h.seat.me.0 in
    let then = c.flag-why.new.seat.me in
    let last = c.refresh.new.seat.me.0 in
    let flag = c.flag-why.ensures in
    let on = gone_flag f (step t.table_id.slots 3 0 0 none) h.seat.me then (flag_of c.flag-why.result) flag.tells in
    let all = gone_further f d then.0 last on c.refresh.ensures.on in
    let to = c.requires.is.steady.kept.fronts.to in
    handle_still t.table_id t.key h _
    (record {
      table_is = c.refresh.ensures.stays.0 ∙ flag.stays.0;
      id_is = c.refresh.ensures.stays.1 ∙ flag.stays.1;
      hand = c.refresh.ensures.hand ∙ ap (λ z. z.1) flag.tells.becomes;
      words = refl;
      numbers = (refl, refl);
      next = refl;
      held = refl;
    })
    all (omega arith) c.requires.is
    (sees_still h.seen d last all.knows to)
    (c.refresh.ensures.knows h.seen (sees_still h.seen d then.0 on.knows to).seen)
    (met_still h.met d last all.knows c.requires.is.steady.kept.met)
