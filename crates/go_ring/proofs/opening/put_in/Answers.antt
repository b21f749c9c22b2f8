-- `put_in`: the parts go over one after another.
use Rattle.std.proofs.Common.{◌≡◌, ◌++◌, map, length, option_to_list, ap, ◌∙◌, Some, arith}
use Rattle.go_ring.proofs.Parts.{moves_first, moves_next, moves_last, no_length}
use Rattle.go_ring.proofs.opening.put_in.Goals as goal

pub loop-part-init : goal.loop-part-init
loop-part-init g c =
    let none : length c.args.slots.now.items ≡ 0 = ap length c.requires.empty in
    let room = c.requires.room in
    let len = c.reverse.ensures.len in (
      moves_first c.args.slots.now.items c.reverse.new.self.items c.args.parts.now.items c.requires.empty c.reverse.ensures.items,
      c.reverse.ensures.capacity,
      omega arith,
    )

pub loop-part-preserved : goal.loop-part-preserved
loop-part-preserved g c =
    let inv = c.loop-part.invariant in
    let room = inv.2 in
    let more = c.push.ensures.capacity in
    let pushed = c.in-Ok.ensures.len in
    let popped = c.pop.ensures.len in
    let one : length (option_to_list c.pop.result) ≡ 1 = ap (λ z. length (option_to_list z)) c.in-Some.is in (
      moves_next c.loop-part.slots.items c.push.new.self.items c.loop-part.parts.items c.pop.new.self.items c.in-Some.part
          (map Some c.args.parts.now.items) inv.0
          (c.pop.ensures.items ∙ ap (λ z. c.pop.new.self.items ++ option_to_list z) c.in-Some.is) c.in-Ok.ensures.items,
      c.pop.ensures.capacity ∙ inv.1,
      omega arith,
    )

pub returns-clause-slots : goal.returns-clause-slots
returns-clause-slots g c =
    let inv = c.loop-part.invariant in
    let popped = c.pop.ensures.cases in
    moves_last c.loop-part.slots.items (map Some c.args.parts.now.items) c.loop-part.parts.items c.pop.new.self.items inv.0
    (c.pop.ensures.items ∙ ap (λ z. c.pop.new.self.items ++ option_to_list z) c.in_default.is)
    (no_length c.pop.new.self.items (let none = c.in_default.ensures.cases.1 in let ok = c.pop.new.self.ok in omega arith))

pub returns-clause-capacity : goal.returns-clause-capacity
returns-clause-capacity g c = c.pop.ensures.capacity ∙ c.loop-part.invariant.1
