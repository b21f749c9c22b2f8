-- What `mark` keeps.
use Rattle.std.proofs.Common.{arith}
use Rattle.go_plain.proofs.KeptLemmas.{kept_mark}
use Rattle.go_plain.proofs.ring.Ring.mark.Goals as goal

pub invariant_of-self : goal.invariant_of-self
invariant_of-self c = kept_mark c.self.inside c.len.result c.self.invariant (omega arith)
