-- The line that is found is the next one.
use Rattle.std.proofs.Common.{arith}
use Rattle.go_text.proofs.LineLemmas.{line_at_is_next}
use Rattle.go_text.proofs.line.next_line.Goals as goal

pub returns-clause-splits : goal.returns-clause-splits
returns-clause-splits c = rw c.line_at.ensures (line_at_is_next c.args.text.now c.args.from (omega arith))
