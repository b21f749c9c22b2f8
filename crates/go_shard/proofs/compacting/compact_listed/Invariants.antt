-- The loop of `compact_listed`.
use Rattle.std.proofs.Common.{length}
use Rattle.go_shard.proofs.RenewalLemmas.{IsRenewing}
use Rattle.go_shard.proofs.compacting.compact_listed.Given as goal

-- the lanes behind those that are left are renewed
abbrev pub invariant-loop-renewal : goal.invariant-loop-renewal
invariant-loop-renewal l = IsRenewing l.front l.fn.slots l.listed l.slots l.left.items

abbrev pub decreases-loop-renewal : goal.decreases-loop-renewal
decreases-loop-renewal l = length l.left.items
