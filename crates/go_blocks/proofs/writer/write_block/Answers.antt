-- `write_block`: a body behind an open gate makes the front of the longer log.
use Rattle.go_blocks.proofs.FileLaws.{IsFront-more}
use Rattle.go_blocks.proofs.writer.write_block.Goals as goal

pub returns-in_err-reserve-clause-next : goal.returns-in_err-reserve-clause-next
returns-in_err-reserve-clause-next c = λ v log front gate is_front within is_open.
    IsFront-more v log front gate c.args.edges.now is_front is_open c.requires.count within

pub returns-clause-next : goal.returns-clause-next
returns-clause-next c = λ v log front gate is_front within is_open. IsFront-more v log front gate c.args.edges.now is_front is_open c.requires.count within
