-- `copy`: the session is shown the log up to the end of the copy.
use Rattle.std.proofs.Common.{refl, ap, length, ◌∙◌, arith, subst, sym}
use Rattle.std.proofs.lemmas.List.{with_items_is}
use Rattle.go_rule.specs.Views.{frame_of}
use Rattle.go_turns.proofs.Going.{gone_further}
use Rattle.go_views.proofs.Copies.{gone_copied}
use Rattle.go_live.specs.Handles.{SeesTo}
use Rattle.go_live.proofs.Handling.{same_number, handle_still, met_still, sees_either}
use Rattle.go_live.proofs.Steady.{sees_still}
use Rattle.go_live.proofs.handle.Handle.copy.Goals as goal

pub returns-clause-is : goal.returns-clause-is
returns-clause-is g c =
    let t = c.args.ring.now.table.shared in
    let f = frame_of t.key in
    let h = c.args.self.now in
    let d = h.seat.me.0 in
    let then = c.copy-copied.new.seat.me.0 in
    let last = c.refresh-self.new.seat.me.0 in
    let copies = c.copy-copied.ensures.copies in
    let on = gone_copied f d then copies.on in
    let all = gone_further f d then last on c.refresh-self.ensures.on in
    let end = c.copy-copied.result.end in
    let told = copies.told in
    let ends : SeesTo end then = (let sees = told.sees in let long = told.long in record { seen = sees; there = omega arith }) in
    let shown : SeesTo c.max-self.result then =
    subst (λ n. SeesTo n then) (sym c.max-self.ensures) (sees_either h.seen end then (sees_still h.seen d then on.knows c.requires.is.steady.kept.fronts.to) ends)
    in
    handle_still t.table_id t.key h _
    (record {
      table_is = c.refresh-self.ensures.stays.0 ∙ c.copy-copied.ensures.stays.0;
      id_is = c.refresh-self.ensures.stays.1 ∙ c.copy-copied.ensures.stays.1;
      hand = c.refresh-self.ensures.hand ∙ copies.hand;
      words = (let long = c.copy-copied.auto.buf in let value = ap length c.deref_mut.ensures.value in let len = c.deref_mut.ensures.len in
          ap length (with_items_is h.words c.copy-copied.new.buf (omega arith)) ∙ same_number (length c.copy-copied.new.buf) (length h.words.items) (omega arith));
      numbers = (refl, refl);
      next = refl;
      held = refl;
    })
    all (omega (arith, c.max-self.ensures)) c.requires.is
    (sees_still c.max-self.result then last c.refresh-self.ensures.on.knows shown)
    (c.refresh-self.ensures.knows c.max-self.result shown.seen)
    (met_still h.met d last all.knows c.requires.is.steady.kept.met)
