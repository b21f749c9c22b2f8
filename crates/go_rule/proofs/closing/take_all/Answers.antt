-- `take_all`: each value is a part, and it is put behind those before it.
use Rattle.std.proofs.Common.{◌≡◌, ◌+◌, List, Bool, false, set, sym, ap, ◌∙◌, arith, subst}
use Rattle.std.specs.Prelude.{Some, None, Option as Maybe}
use Rattle.std.specs.Mem.Slots.{slots_items, slots_filled, slots_counts}
use Rattle.std.proofs.lemmas.Bool.{false≢true}
use mathlib.Core.Option.{some}
use lib.ListN.{get_elem?}
use Rattle.go_rule.proofs.Takings.{HasTaken, takes_next}
use Rattle.go_rule.proofs.closing.take_all.Goals as goal

pub unreachable-requires : goal.unreachable-requires
unreachable-requires g c =
    let place = c.loop-place.place in
    let there : get_elem? (slots_items c.loop-place.closed.slots) place ≡ some None = c.take.ensures.value ∙ ap some c.in_default.is in
    false≢true (c.requires.home place None (subst (λ (xs : List (Maybe g.row.T.Denot)). get_elem? xs place ≡ some None) c.loop-place.invariant.0 there))

pub loop-place-preserved : goal.loop-place-preserved
loop-place-preserved g c =
    let inv = c.loop-place.invariant in
    let old = c.loop-place.closed.slots in
    let place = c.loop-place.place in
    let others = c.take.ensures.others in
    let len = inv.1 in
    let less = c.loop-place-test.true in
    let long = inv.5 in
    let room = inv.6 in
    let more = c.push.ensures.capacity in
    let counts = (slots_counts old).1 in
    let pushed = c.in-Ok.ensures.len in
    let there : get_elem? (slots_items old) place ≡ some (Some c.in-Some.part) = c.take.ensures.value ∙ ap some c.in-Some.is in
    let taken = takes_next (slots_items old) (slots_filled old) c.loop-place.parts.items place c.args.count c.in-Some.part (omega arith) there inv.3 in (
      others.0 ∙ inv.0,
      others.2 ∙ inv.1,
      others.3 ∙ inv.2,
      subst (λ (xs : List (Maybe g.row.T.Denot)). HasTaken xs (slots_filled c.take.new.self.slots) c.push.new.self.items (place + 1) c.args.count)
          (sym others.0)
          (subst (λ (fs : List Bool). HasTaken (slots_items old) fs c.push.new.self.items (place + 1) c.args.count) (sym others.1)
          (subst (λ (ys : List g.row.T.Denot). HasTaken (slots_items old) (set (slots_filled old) place false) ys (place + 1) c.args.count)
          (sym c.in-Ok.ensures.items) taken)),
      omega arith,
      omega arith,
      omega arith,
    )
