-- `opened`: the parts are as a ring wants them.
use Rattle.std.proofs.Common.{refl, sym, ap, ◌∙◌, arith, subst}
use Rattle.go_core.specs.declared.part.PartState.{PartState}
use Rattle.go_rule.specs.declared.layout.Key.{Key}
use Rattle.go_rule.specs.Opening.{CanOpen}
use Rattle.go_turns.specs.Samples.{meaning_by}
use Rattle.go_turns.proofs.Samples.{may_open}
use Rattle.go_turns.proofs.tests.opened.Goals as goal

pub open-requires-clause-parts : goal.open-requires-clause-parts
open-requires-clause-parts c =
    let key : Key PartState =
    record { layout = record { vertices = 10; ring = 8; shards = 3 }; first = 0; quota = 1; opened = c.of.result; file = c.of-2.result }
    in
    subst (CanOpen (meaning_by (λ s. s)) key) (sym c.in_ok-slots.ensures.items)
    (may_open (λ s. s) key c.part.result c.part-2.result c.part-3.result c.part-file.result
    (record { shards = refl; first = refl; opened = ap (λ v. v.items) c.of.ensures ∙ c.new.ensures.items; few = omega arith }) c.of-2.ensures
    (record { first = c.part.ensures; second = c.part-2.ensures; third = c.part-3.ensures; file_is = c.part-file.ensures }))
