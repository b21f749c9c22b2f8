-- `close`: every value is a part at home, and the rule holds with the seat that is left.
use Rattle.std.proofs.Common.{◌≡◌, ℕ, List, sym, ◌∙◌, arith, subst}
use Rattle.std.specs.Prelude.{Option as Maybe}
use Rattle.std.specs.Mem.Slots.{slots_items, slots_counts}
use mathlib.Core.Option.{some}
use lib.ListN.{get_elem?}
use Rattle.go_core.specs.Frame.{head_in, archived_in, durable_in}
use Rattle.go_rule.specs.Meaning.{meaning}
use Rattle.go_rule.specs.Closing.{IsClosed}
use Rattle.go_rule.proofs.Lists.{is_wrapped, wrapped_same, index_is}
use Rattle.go_rule.proofs.Endings.{final_left}
use Rattle.go_rule.proofs.closing.close.Goals as goal

pub take_all-parts-requires-clause-home : goal.take_all-parts-requires-clause-home
take_all-parts-requires-clause-home g c k x there =
    let ring = c.args.ring in
    let closed = c.close_with-closed in
    let xs = slots_items closed.result.slots in
    let long = (slots_counts closed.result.slots).0 in
    let count = closed.ensures.counts.1 in
    let parts = ring.parts_is in
    let shards = ring.shards_is in
    let left = final_left (meaning g.T.Part)
    (record { stands_on = g.met.T.Part.stands_on; recovers_on = g.met.T.Part.recovers_on }) ring.table.shared.key c.args.seat.id c.args.seat.me.0
    (slots_items closed.result.words) xs c.requires.whole c.requires.notes (omega arith) closed.ensures.values.2
    in
    is_wrapped left.parts k x (subst (λ (ys : List (Maybe g.row.T.Denot)). get_elem? ys k ≡ some x) left.all there)

pub returns : goal.returns
returns g c =
    let m = meaning g.T.Part in
    let ring = c.args.ring in
    let key = ring.table.shared.key in
    let d = c.args.seat.me.0 in
    let closed = c.close_with-closed in
    let words = slots_items closed.result.words in
    let xs = slots_items closed.result.slots in
    let long = (slots_counts closed.result.slots).0 in
    let count = closed.ensures.counts.1 in
    let parts = ring.parts_is in
    let shards = ring.shards_is in
    let left = final_left m (record { stands_on = g.met.T.Part.stands_on; recovers_on = g.met.T.Part.recovers_on }) key c.args.seat.id d words xs
    c.requires.whole c.requires.notes (omega arith) closed.ensures.values.2
    in
    let same : left.parts ≡ c.take_all-parts.result.items = wrapped_same left.parts c.take_all-parts.result.items (sym left.all
    ∙ sym c.take_all-parts.ensures.parts) in
    record {
      left =
          subst (λ (n : ℕ). IsClosed m key d c.take_all-parts.result.items c.word-head.result c.word-archived.result n)
          (index_is words 2 c.word-durable.result c.word-durable.ensures)
          (subst (λ (n : ℕ). IsClosed m key d c.take_all-parts.result.items c.word-head.result n (durable_in words))
          (index_is words 1 c.word-archived.result c.word-archived.ensures)
          (subst (λ (n : ℕ). IsClosed m key d c.take_all-parts.result.items n (archived_in words) (durable_in words))
          (index_is words 0 c.word-head.result c.word-head.ensures)
          (subst (λ (ps : List g.row.T.Denot). IsClosed m key d ps (head_in words) (archived_in words) (durable_in words)) same left.closed)));
    }
