-- The pieces of a ring at its beginning.
use Rattle.std.specs.Prelude.{◌≡◌, List, [], ◌∷◌, ◌++◌, map}
use Rattle.go_disk.specs.Device.{Device}
use Rattle.go_durable.specs.LogState.{LogState}
use Rattle.go_durable.specs.Standing.{IsLog}
use Rattle.go_shard.specs.Parts.{HaveParts}
use Rattle.go_shard.specs.ShardState.{ShardState}
use Rattle.go_rule.specs.declared.layout.Key.{Key}
use Rattle.go_rule.specs.Opening.{IsRoom}
use Rattle.go_rule.specs.Views.{opened_of}
use Rattle.go_piece.specs.declared.piece.Piece.{Piece}
use Rattle.go_piece.specs.declared.piece.Piece.TheVariants.{Shard, Log}

-- the shards in their order, and behind them the log's file
abbrev pub laid_out : {D : Type 0} → List ShardState → Piece D → List (Piece D)
laid_out shards file = map Shard shards ++ file ∷ []

-- shards and a log have what is before a ring's first position, for its vertices, and the ring remembers the log as its file
pub record HaveOpened {D : Type 0} (device : Device D) (key : Key (Piece D)) (shards : List ShardState) (kept : LogState D) : Type 0 where
  pub room : IsRoom key
  pub parts : HaveParts key.layout.vertices key.layout.shards key.first [] (opened_of key) shards
  pub stands : IsLog device kept (opened_of key)
  pub vertices : kept.vertices ≡ key.layout.vertices
  pub file : Log kept ≡ key.file.value
