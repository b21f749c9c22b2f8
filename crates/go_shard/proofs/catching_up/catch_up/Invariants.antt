-- The loop of `catch_up`.
use Rattle.std.proofs.Common.{◌≡◌, ◌+◌, ◌-◌, length}
use Rattle.go_shard.specs.Parts.{stops_of}
use Rattle.go_shard.proofs.PartLemmas.{IsCaughtUpTo}
use Rattle.go_shard.proofs.catching_up.catch_up.Given as goal

-- the shards have caught up to here
abbrev pub invariant-loop-start : goal.invariant-loop-start
invariant-loop-start l =
    IsCaughtUpTo l.from l.views (stops_of l.fn.shards.items l.views) l.newest l.fn.shards.items l.shards.items l.start
    × (l.stops.items ≡ stops_of l.fn.shards.items l.views) × (l.head ≡ l.from + length l.newest)

abbrev pub decreases-loop-start : goal.decreases-loop-start
decreases-loop-start l = l.head - l.start
