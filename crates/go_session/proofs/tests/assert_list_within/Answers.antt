-- One entry more.
use Rattle.std.proofs.Common.{List, take_all, subst, arith}
use Rattle.std.proofs.lemmas.List.Elements.{All-more}
use Rattle.std.specs.Prelude.{All}
use Rattle.go_word.specs.declared.edge.Edge.{Edge}
use Rattle.go_word.specs.Log.{IsWithin}
use Rattle.go_session.proofs.tests.assert_list_within.Goals as goal

pub loop-edge-preserved : goal.loop-edge-preserved
loop-edge-preserved g c = All-more (IsWithin c.args.vertices) c.args.edges.now c.loop-edge.edge-index _ c.loop-edge-test.true c.loop-edge.invariant
    c.assert_edge_within.ensures

pub returns : goal.returns
returns g c =
    let edges = c.args.edges.now in
    subst (λ (l : List Edge). All (IsWithin c.args.vertices) l) (take_all c.loop-edge.edge-index edges (omega arith)) c.loop-edge.invariant
