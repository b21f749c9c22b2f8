-- `range_length`: the block of the first entry isn't behind that of the last.
use Rattle.std.proofs.Common.{◌-◌, arith}
use Rattle.go_durable.specs.Ranging.{HasEntry}
use Rattle.go_durable.proofs.Runs.{not_behind}
use Rattle.go_durable.proofs.run.range_length.Goals.{After-block_of-2}
use Rattle.go_durable.proofs.run.range_length.Goals as goal

-- the block that has the last entry
last : (c : After-block_of-2) → HasEntry c.args.places.now c.block_of-2.result (c.args.b - 1)
last c = c.block_of-2.ensures (omega arith)

pub length-requires-clause-order : goal.length-requires-clause-order
length-requires-clause-order c =
    not_behind c.args.places.now c.block_of.result c.block_of-2.result c.args.a (c.block_of.ensures (omega arith)) (omega (arith, (last c).ends))

pub length-requires-clause-few_blocks : goal.length-requires-clause-few_blocks
length-requires-clause-few_blocks c = omega (arith, (last c).within)

pub returns : goal.returns
returns c = omega (arith, c.length.ensures, length-requires-clause-order (goal.at.returns c).After-block_of-2)
