-- `edges_to`: each of them is the one edge.
use Rattle.std.proofs.Common.{ap, arith}
use Rattle.std.proofs.lemmas.List.Elements.{All-replicate}
use Rattle.go_word.specs.Word.{IsStorable}
use Rattle.go_rule.specs.Rule.{IsBelow}
use Rattle.go_ring.proofs.tests.edges_to.Goals as goal

pub returns-clause-storable : goal.returns-clause-storable
returns-clause-storable c =
    let src = ap (λ e. e.src) c.edge_to.ensures in
    let dst = ap (λ e. e.dst) c.edge_to.ensures in
    let less = c.requires in
    All-replicate IsStorable 64 c.edge_to.result (record { within = record { source = omega arith; destination = omega arith } })

pub returns-clause-below : goal.returns-clause-below
returns-clause-below c =
    let src = ap (λ e. e.src) c.edge_to.ensures in
    let dst = ap (λ e. e.dst) c.edge_to.ensures in
    let less = c.requires in
    All-replicate (IsBelow 10000) 64 c.edge_to.result (record { src = omega arith; dst = omega arith })
