-- The limits of a store.
use Rattle.std.specs.Prelude.{◌≤◌}
use Rattle.std.specs.Int.{IsPowerOfTwo}
use Rattle.go_word.specs.declared.edge.TheConstants.{VERTEX_LIMIT}
use Rattle.go_api.specs.declared.limits.TheConstants.{FEWEST_SLOTS, SLOT_LIMIT, SHARD_LIMIT}
use Rattle.go_api.specs.declared.setup.Setup.{Setup}

-- the numbers of a store are within their limits: its vertices, the slots of its ring, which are a power of two, and its shards
pub record IsSetup (setup : Setup) : Type 0 where
  pub some_vertices : 1 ≤ setup.vertices
  pub few_vertices : setup.vertices ≤ VERTEX_LIMIT
  pub enough_slots : FEWEST_SLOTS ≤ setup.ring
  pub few_slots : setup.ring ≤ SLOT_LIMIT
  pub slots_double : IsPowerOfTwo setup.ring
  pub some_shards : 1 ≤ setup.shards
  pub few_shards : setup.shards ≤ SHARD_LIMIT
