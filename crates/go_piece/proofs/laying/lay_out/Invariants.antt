-- The shards so far and those that are left are all, and there is room for these and one more.
use Rattle.std.proofs.Common.{◌≡◌, ◌<◌, ◌+◌, ◌++◌, map, Some, length, vec_len, vec_capacity}
use Rattle.std.specs.Vec.Iter.{into_iter_items}
use Rattle.go_piece.specs.declared.piece.Piece.TheVariants.{Shard}
use Rattle.go_piece.proofs.laying.lay_out.Given as goal

abbrev pub invariant-loop-shard : goal.invariant-loop-shard
invariant-loop-shard g l =
    ((goal.iterator-loop-shard g).can_next l.shard-iterator × (goal.iterator-loop-shard g).is_finite l.shard-iterator)
    × (l.slots.items ++ map Some (map Shard (into_iter_items l.shard-iterator)) ≡ map Some (map Shard l.fn.shards.items))
    × (vec_len l.slots + length (into_iter_items l.shard-iterator) < vec_capacity l.slots)
