-- `opened`: the parts are as a ring wants them.
use Rattle.std.proofs.Common.{refl, sym, ap, ◌∙◌, arith, subst}
use Rattle.go_rule.specs.declared.layout.Key.{Key}
use Rattle.go_rule.specs.Opening.{CanOpen}
use Rattle.go_turns.specs.declared.thread_tests.Counted.{Counted}
use Rattle.go_turns.specs.Samples.{meaning_by}
use Rattle.go_turns.proofs.Samples.{may_open}
use Rattle.go_turns.proofs.thread_tests.opened.Goals as goal

pub open-requires-clause-parts : goal.open-requires-clause-parts
open-requires-clause-parts c =
    let state : Counted → _ = λ p. p.state in
    let key : Key Counted =
    record { layout = record { vertices = 10; ring = 512; shards = 3 }; first = 0; quota = 300; opened = c.of.result; file = c.of-2.result }
    in
    subst (CanOpen (meaning_by state) key) (sym c.in_ok-slots.ensures.items)
    (may_open state key c.uncounted.result c.uncounted-2.result c.uncounted-3.result c.uncounted-file.result
    (record { shards = refl; first = refl; opened = ap (λ v. v.items) c.of.ensures ∙ c.new.ensures.items; few = omega arith }) c.of-2.ensures
    (record {
      first = c.uncounted.ensures;
      second = c.uncounted-2.ensures;
      third = c.uncounted-3.ensures;
      file_is = c.uncounted-file.ensures;
    }))
