-- The loop of `compact_each`.
use Rattle.go_shard.proofs.AllCompactLemmas.{IsCompactedUpTo}
use Rattle.go_shard.proofs.compacting_all.compact_each.Given as goal

-- the shards up to here have had their turn
abbrev pub invariant-loop-i : goal.invariant-loop-i
invariant-loop-i l = IsCompactedUpTo l.front l.fn.shards.items l.shards.items l.i
