-- The loop of `empty_shards`.
use Rattle.go_shard.proofs.MakingLemmas.{IsEmptyUpTo}
use Rattle.go_shard.proofs.making.empty_shards.Given as goal

-- the shards so far
abbrev pub invariant-loop-i : goal.invariant-loop-i
invariant-loop-i l = IsEmptyUpTo l.vertices l.shards l.i l.made.items
