-- The loop of `list_stops`.
use Rattle.std.proofs.Common.{◌≡◌, ◌++◌, take, map}
use Rattle.go_shard.proofs.catching_up.list_stops.Given as goal

-- the fronts of all views, and of the shards so far
abbrev pub invariant-loop-shard : goal.invariant-loop-shard
invariant-loop-shard l = l.stops.items ≡ l.views ++ map (λ s. s.front) (take l.shard-index l.shards)
