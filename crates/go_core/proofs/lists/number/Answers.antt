-- `number`: one more edge is numbered by how many there were.
use Rattle.std.proofs.Common.{◌∙◌, arith}
use Rattle.go_core.proofs.ListLemmas.{numbered_more}
use Rattle.go_core.proofs.lists.number.Goals as goal

pub loop-edge-preserved : goal.loop-edge-preserved
loop-edge-preserved c = (
  c.in_ok-push_back.ensures.items
      ∙ numbered_more c.args.first c.args.edges.now c.loop-edge.edge-index _ c.loop-edge.list c.loop-edge.at c.loop-edge-test.true c.loop-edge.invariant.0
      c.loop-edge.invariant.1,
  omega arith,
)
