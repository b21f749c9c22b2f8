-- How many entries each vertex had at a front, shard by shard.
use Rattle.std.specs.Prelude.{◌≡◌, ℕ, ◌+◌, ◌*◌, ◌/◌, ◌%◌, ◌<◌, List, length, slice_index}

-- as many counts for each shard, one shard after another; in a shard by the order of its vertices
pub record Striped : Type 0 where
  pub shards : ℕ
  pub stripe : ℕ
  pub list : List ℕ

-- the count of a vertex
abbrev pub count_of : Striped → ℕ → ℕ
count_of counts v = slice_index counts.list ((v % counts.shards) * counts.stripe + v / counts.shards)

-- there is a count for each vertex of each shard
pub record IsStriped (counts : Striped) : Type 0 where
  pub some : 0 < counts.shards
  pub whole : length counts.list ≡ counts.shards * counts.stripe
