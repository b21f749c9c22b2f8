-- The loop of `flush`.
use Rattle.std.proofs.Common.{length}
use Rattle.go_durable.proofs.Journals.{IsFlushedTo}
use Rattle.go_durable.proofs.journal.Journal.flush.Given as goal

-- the entries in front of the rest were appended
abbrev pub invariant-loop-rest : goal.invariant-loop-rest
invariant-loop-rest g l = IsFlushedTo g.D.Disk.device l.edges l.fn.self l.rest l.log

-- each turn leaves a shorter rest
abbrev pub decreases-loop-rest : goal.decreases-loop-rest
decreases-loop-rest g l = length l.rest
