-- `open`: the key is of what was handed in, and parts that come back are in their order.
use Rattle.std.proofs.Common.{List, flat_map, option_to_list, Some, sym, refl, ap, ◌∙◌, arith, subst}
use Rattle.std.specs.Prelude.{Option as Maybe}
use Rattle.go_rule.specs.declared.layout.Key.{Key as RingKey}
use Rattle.go_rule.specs.Meaning.{meaning}
use Rattle.go_rule.specs.Opening.{CanOpen}
use Rattle.go_ring.specs.Openings.{IsKeyOf}
use Rattle.go_ring.proofs.Parts.{comes_back, stands_there}
use Rattle.go_ring.proofs.opening.open.Goals as goal

pub open-requires-clause-parts : goal.open-requires-clause-parts
open-requires-clause-parts g c =
    let count = c.requires.count in
    let file = stands_there c.args.parts.items c.args.layout.shards c.index.result.now (omega arith) (sym c.index.ensures) in
    let key : RingKey g.row.T.Denot = record {
      layout = c.args.layout;
      first = c.args.first;
      quota = c.args.quota;
      opened = c.args.opened;
      file = c.of.result;
    } in
    let m = meaning g.T.Part in
    subst (λ (xs : List (Maybe g.row.T.Denot)). CanOpen m key xs) (sym c.put_in.ensures.slots)
    (c.requires.parts key
    (record { layout_is = refl; first_is = refl; quota_is = refl; opened_is = refl; file_is = file ∙ ap (λ z. Some z) (sym c.of.ensures) }))

pub returns-in-Ok-open-clause-key : goal.returns-in-Ok-open-clause-key
returns-in-Ok-open-clause-key g c =
    let count = c.requires.count in
    let file = stands_there c.args.parts.items c.args.layout.shards c.index.result.now (omega arith) (sym c.index.ensures) in
    subst (λ (k : RingKey g.row.T.Denot). IsKeyOf c.args.layout c.args.first c.args.quota c.args.opened.value.items c.args.parts.items k)
    (sym c.in-Ok-open.ensures.ok.0)
    (record { layout_is = refl; first_is = refl; quota_is = refl; opened_is = refl; file_is = file ∙ ap (λ z. Some z) (sym c.of.ensures) })

pub returns-clause-back : goal.returns-clause-back
returns-clause-back g c =
    c.taken_out.ensures ∙ ap (flat_map option_to_list) c.in-Err.ensures.err.0 ∙ ap (flat_map option_to_list) c.put_in.ensures.slots
    ∙ comes_back c.args.parts.items
