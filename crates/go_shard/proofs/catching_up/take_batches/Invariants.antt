-- The loop of `take_batches`.
use Rattle.std.proofs.Common.{map}
use Rattle.go_shard.proofs.TakingLemmas.{IsTakenUpTo}
use Rattle.go_shard.proofs.catching_up.take_batches.Given as goal

-- the shards up to here have had their turn
abbrev pub invariant-loop-i : goal.invariant-loop-i
invariant-loop-i l = IsTakenUpTo l.start l.end (map (λ list. list.items) l.batches) l.fn.shards.items l.shards.items l.i
