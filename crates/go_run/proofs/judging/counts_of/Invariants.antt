-- The lists so far are counted.
use Rattle.std.proofs.Common.{◌≡◌, take}
use Rattle.go_session.specs.Asked.{lists_of}
use Rattle.go_run.specs.Input.{counts_of}
use Rattle.go_run.proofs.judging.counts_of.Given as goal

abbrev pub invariant-loop-number : goal.invariant-loop-number
invariant-loop-number l = l.counts.items ≡ counts_of (lists_of l.loads (take l.number-index l.numbers))
