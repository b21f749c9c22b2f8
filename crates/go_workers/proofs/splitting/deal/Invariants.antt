-- The loop of `deal`.
use Rattle.std.proofs.Common.{map, take}
use Rattle.go_shard.specs.Split.{IsSplit}
use Rattle.go_workers.proofs.splitting.deal.Given as goal

-- the entries so far are split
abbrev pub invariant-loop-edge : goal.invariant-loop-edge
invariant-loop-edge l = IsSplit l.shards (take l.edge-index l.edges) (map (λ list. list.items) l.lists.items)
