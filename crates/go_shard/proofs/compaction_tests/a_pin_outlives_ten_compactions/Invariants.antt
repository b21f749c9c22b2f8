-- The loop of `a_pin_outlives_ten_compactions`.
use Rattle.std.proofs.Common.{◌≡◌, ◌≤◌, ◌+◌, ◌*◌, [], ◌∷◌}
use Rattle.go_shard.specs.ShardState.{Keeps}
use Rattle.go_shard.proofs.compaction_tests.a_pin_outlives_ten_compactions.Given as goal

-- the shard still has its pin, and has come two fronts further each time
abbrev pub invariant-loop-round : goal.invariant-loop-round
invariant-loop-round g l = record {
  index : l.shard.index ≡ 1;
  shards : l.shard.shards ≡ 2;
  vertices : l.shard.vertices ≡ 8;
  pins : l.shard.pins ≡ record { id = 9; front = 3 } ∷ [];
  pinned : Keeps l.shard 3;
  uncut : l.shard.cut ≤ 3;
  front : l.shard.front ≡ 9 + 2 * l.round;
}
