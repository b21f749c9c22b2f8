-- A number's own digits write it.
use Rattle.std.proofs.Common.{arith}
use Rattle.go_text.proofs.NumberLemmas.{decimal_is_numeral}
use Rattle.go_text.proofs.output.put_number.Goals as goal

pub returns-clause-numeral : goal.returns-clause-numeral
returns-clause-numeral c = decimal_is_numeral c.args.n (omega arith)
