-- `taken_out`: the parts come back one after another.
use Rattle.std.proofs.Common.{◌≡◌, ◌++◌, length, flat_map, option_to_list, sym, ap, ◌∙◌, arith}
use Rattle.std.proofs.lemmas.List.{append-nil}
use Rattle.go_ring.proofs.Parts.{takes_first, takes_next, takes_last, no_length}
use Rattle.go_ring.proofs.opening.taken_out.Goals as goal

pub loop-slot-init : goal.loop-slot-init
loop-slot-init g c =
    let none : length c.args.parts.items ≡ 0 = ap length c.requires.empty in
    let ok = c.args.parts.ok in
    let room = c.requires.room in
    let len = c.reverse.ensures.len in (
      takes_first c.args.parts.items c.reverse.new.self.items c.args.slots.items c.requires.empty c.reverse.ensures.items,
      omega arith,
    )

pub loop-slot-preserved-in-Ok : goal.loop-slot-preserved-in-Ok
loop-slot-preserved-in-Ok g c =
    let inv = c.loop-slot.invariant in
    let room = inv.1 in
    let more = c.push.ensures.capacity in
    let pushed = c.in-Ok.ensures.len in
    let popped = c.pop.ensures.len in
    let one : length (option_to_list c.pop.result) ≡ 1 = ap (λ z. length (option_to_list z)) c.in-Some.is in (
      takes_next c.loop-slot.parts.items c.push.new.self.items (flat_map option_to_list c.args.slots.items) c.loop-slot.slots.items c.pop.new.self.items
          c.in-Some.slot inv.0 (c.pop.ensures.items ∙ ap (λ z. c.pop.new.self.items ++ option_to_list z) c.in-Some.is)
          (c.in-Ok.ensures.items ∙ ap (λ z. c.loop-slot.parts.items ++ option_to_list z) (sym c.in-Some-slot.is)),
      omega arith,
    )

pub loop-slot-preserved : goal.loop-slot-preserved
loop-slot-preserved g c =
    let inv = c.loop-slot.invariant in
    let room = inv.1 in
    let popped = c.pop.ensures.len in
    let one : length (option_to_list c.pop.result) ≡ 1 = ap (λ z. length (option_to_list z)) c.in-Some.is in (
      takes_next c.loop-slot.parts.items c.loop-slot.parts.items (flat_map option_to_list c.args.slots.items) c.loop-slot.slots.items
          c.pop.new.self.items c.in-Some.slot inv.0 (c.pop.ensures.items ∙ ap (λ z. c.pop.new.self.items ++ option_to_list z) c.in-Some.is)
          (sym (ap (λ z. c.loop-slot.parts.items ++ option_to_list z) c.in-None.is ∙ append-nil c.loop-slot.parts.items)),
      omega arith,
    )

pub returns : goal.returns
returns g c =
    takes_last c.loop-slot.parts.items (flat_map option_to_list c.args.slots.items) c.loop-slot.slots.items c.pop.new.self.items c.loop-slot.invariant.0
    (c.pop.ensures.items ∙ ap (λ z. c.pop.new.self.items ++ option_to_list z) c.in_default.is)
    (no_length c.pop.new.self.items (let none = c.in_default.ensures.cases.1 in let ok = c.pop.new.self.ok in omega arith))
