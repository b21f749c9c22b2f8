-- The loop of `read_blocks`.
use Rattle.std.proofs.Common.{length}
use Rattle.go_blocks.specs.Reading.{IsUpTo}
use Rattle.go_blocks.proofs.reader.read_blocks.Given as goal

-- what is read is the front before the gate that comes next
abbrev pub invariant-loop-rest : goal.invariant-loop-rest
invariant-loop-rest l = IsUpTo l.bytes l.rest l.vertices l.edges.items l.places.items l.gate

abbrev pub decreases-loop-rest : goal.decreases-loop-rest
decreases-loop-rest l = length l.rest
