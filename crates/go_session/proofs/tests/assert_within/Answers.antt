-- One list more.
use Rattle.std.proofs.Common.{List, take_all, subst, ◌∙◌, arith}
use Rattle.std.proofs.lemmas.List.Elements.{All-more}
use Rattle.std.specs.Prelude.{All}
use Rattle.go_word.specs.declared.edge.Edge.{Edge}
use Rattle.go_session.proofs.WithinLemmas.{AreWithin}
use Rattle.go_session.proofs.tests.assert_within.Goals as goal

pub loop-list-preserved : goal.loop-list-preserved
loop-list-preserved g c = All-more (AreWithin c.args.vertices) c.args.loads.now c.loop-list.list-index c.list-item.result c.loop-list-test.true
    c.loop-list.invariant
    (subst (λ (l : List Edge). AreWithin c.args.vertices l) (c.as_slice.ensures ∙ c.list-item.is) c.assert_list_within.ensures)

pub returns : goal.returns
returns g c =
    let loads = c.args.loads.now in
    subst (λ (l : List (List Edge)). All (AreWithin c.args.vertices) l) (take_all c.loop-list.list-index loads (omega arith)) c.loop-list.invariant
