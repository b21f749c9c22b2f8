-- Where a row begins.
use Rattle.std.proofs.Common.{refl, sym, arith}
use Rattle.go_rows.proofs.RowsLemmas.{start_after}
use Rattle.go_rows.proofs.rows.start_in.Goals as goal

pub returns-then-number-eq0 : goal.returns-then-number-eq0
returns-then-number-eq0 c = rw c.if-number-eq0.true refl

pub returns-else-number-eq0 : goal.returns-else-number-eq0
returns-else-number-eq0 c = sym (start_after 0 c.args.ends.now c.args.number (omega (arith, c.if-number-eq0.false)))
