-- `store_all`: the next entry is owed, and after it the others still are.
use Rattle.std.proofs.Common.{◌≡◌, ℕ, ◌+◌, get_or, sym, refl, ap, ◌∙◌, arith, subst, false}
use Rattle.std.proofs.lemmas.List.{get_or_default}
use Rattle.go_word.specs.declared.edge.Edge.{Edge}
use Rattle.go_rule.specs.declared.view.SeatView.{SeatView}
use Rattle.go_rule.specs.Views.{frame_of, with_stored}
use Rattle.go_ring.specs.Cursors.{IsCursorAt}
use Rattle.go_ring.proofs.Fills.{Doing, SameFronts, doing_begins, doing_owes, doing_next}
use Rattle.go_ring.proofs.stores.store_all.Goals as goal

pub loop-done-init : goal.loop-done-init
loop-done-init g c =
    let start = c.args.seat.now.me.0 in
    let f = frame_of c.args.ring.now.table.shared.key in
    let first : c.args.first ≡ c.args.first + 0 = omega arith in (
      refl,
      refl,
      refl,
      doing_begins with_stored (λ x d. refl) (SameFronts start) (λ x d same. same) c.args.first c.args.edges.now start c.requires.owed (refl, refl, refl),
      omega arith,
      subst (λ (p : ℕ). IsCursorAt f p c.new-cursor.result) first c.new-cursor.ensures,
    )

pub store-requires-clause-pending : goal.store-requires-clause-pending
store-requires-clause-pending g c =
    let none : Edge = record { del = false; src = 0; dst = 0 } in
    let edges = c.args.edges.now in
    let start = c.args.seat.now.me.0 in
    let done = c.loop-done.done in
    let e = get_or edges done none in
    let less = c.loop-done-test.true in
    doing_owes with_stored (λ x d. refl) (SameFronts start) (λ x d same. same) c.args.first edges start c.loop-done.seat.me.0 done e less
    (get_or_default edges done e none less) c.loop-done.invariant.3

pub loop-done-preserved : goal.loop-done-preserved
loop-done-preserved g c =
    let none : Edge = record { del = false; src = 0; dst = 0 } in
    let edges = c.args.edges.now in
    let start = c.args.seat.now.me.0 in
    let done = c.loop-done.done in
    let e = get_or edges done none in
    let less = c.loop-done-test.true in
    let inv = c.loop-done.invariant in
    let tells = c.store.ensures.tells in
    let next = doing_next with_stored (λ x d. refl) (SameFronts start) (λ x d same. same) c.args.first edges start c.loop-done.seat.me.0 done e less
    (get_or_default edges done e none less) inv.3 in
    let f = frame_of c.args.ring.now.table.shared.key in
    let after : (c.args.first + done) + 1 ≡ c.args.first + (done + 1) = omega arith in (
      c.store.ensures.stays.0 ∙ inv.0,
      c.store.ensures.stays.1 ∙ inv.1,
      ap (λ z. z.1) tells ∙ inv.2,
      subst (λ (v : SeatView g.row.T.Denot). Doing with_stored (SameFronts start) c.args.first edges start v (done + 1)) (sym (ap (λ z. z.0) tells)) next,
      omega arith,
      subst (λ (p : ℕ). IsCursorAt f p c.next-cursor.result) after c.next-cursor.ensures,
    )
