-- What a shard of a benchmark is.
use Rattle.std.specs.Prelude.{◌≡◌, ℕ}
use Rattle.go_shard.specs.ShardState.{ShardState, Keeps}

-- a shard of all vertices that knows a log up to a front, and keeps that
pub record IsFilled (length : ℕ) (shard : ShardState) : Type 0 where
  pub index : shard.index ≡ 0
  pub shards : shard.shards ≡ 1
  pub vertices : shard.vertices ≡ 65536
  pub cut : shard.cut ≡ 0
  pub front : shard.front ≡ length
  pub kept : Keeps shard length
