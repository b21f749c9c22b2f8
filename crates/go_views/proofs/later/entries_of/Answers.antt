-- `entries_of`: an entry more.
use Rattle.std.proofs.Common.{◌∙◌, ap, slice_index, length, arith}
use Rattle.go_word.specs.Word.{decode}
use Rattle.go_views.proofs.Entries.{entry_next, slot_next}
use Rattle.go_views.proofs.later.entries_of.Goals as goal

pub push_reserved-requires : goal.push_reserved-requires
push_reserved-requires c =
    let room = c.loop.invariant.room in
    let less = c.loop-test.true in
    omega arith

pub loop-preserved : goal.loop-preserved
loop-preserved c =
    let inv = c.loop.invariant in
    let words = c.args.buf.now in
    let pushed = c.push_reserved.ensures in
    let less = c.loop-test.true in
    record {
      whole = entry_next (length words) c.loop.counter c.args.to words c.loop.entries.items c.push_reserved.new.self.items _ c.decode.result less
          (c.decode.ensures ∙ ap (λ s. decode (slice_index words s)) inv.slot) pushed.items inv.whole;
      slot = c.next_slot-slot.ensures ∙ slot_next c.loop.slot c.loop.counter (length words) inv.slot;
      room = let room = inv.room in let len = pushed.len in let capacity = pushed.capacity in omega arith;
    }
