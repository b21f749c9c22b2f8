-- What a seat needs to settle its pins at the archived front, and what it counts there.
use Rattle.std.specs.Prelude.{◌≡◌, ℕ, ◌+◌, ◌/◌, ◌%◌, ◌<◌, ◌≤◌, ◌^◌, List, ◌++◌, length, take, slice_index, All}
use Rattle.go_word.specs.declared.edge.Edge.{Edge}
use Rattle.go_word.specs.Log.{raw}
use Rattle.go_core.specs.Frame.{Frame}
use Rattle.go_shard.specs.ShardState.{ShardState, IsOf, counts_of, told}
use Rattle.go_rule.specs.declared.view.SeatView.{SeatView}
use Rattle.go_views.specs.Counts.{Striped, IsStriped, count_of}
use Rattle.go_views.specs.PlaceTurns.{HasNames, ArePinsTo}

-- counts were added to a list: those that a shard tells of its vertices at a front, by their places
pub record AddsCounts (front : ℕ) (old new : List ℕ) (shard : ShardState) : Type 0 where
  pub are : new ≡ old ++ counts_of shard front
  pub places : length (counts_of shard front) ≡ shard.vertices / shard.shards + 1
  pub each : (v : ℕ) → IsOf shard v → slice_index (counts_of shard front) (v / shard.shards) ≡ told shard v front

-- how many entries of a log's beginning leave the vertices of the shard of a place, among so many over so many vertices
pub record AreRaw (shards vertices place : ℕ) (log : List Edge) (counts : List ℕ) : Type 0 where
  pub places : length counts ≡ vertices / shards + 1
  pub each : (v : ℕ) → v < vertices → v % shards ≡ place → slice_index counts (v / shards) ≡ raw log v

module _ {P : Type 0} where
  -- the pins of these names are a seat's, which has none past the archived front that it knows, and has seen the log up to there
  pub record CanSettle (f : Frame) (names : List ℕ) (archived : ℕ) (d : SeatView P) : Type 0 where
    pub archived_is : d.core.archived ≡ archived
    pub seen : archived ≤ length d.told.seen
    pub named : HasNames names d
    pub at_most : ArePinsTo f archived d

  -- counts of all vertices of so many shards are those of what a seat has seen, up to a front
  pub record AreCounted (shards archived : ℕ) (counts : Striped) (d : SeatView P) : Type 0 where
    pub shards_are : counts.shards ≡ shards
    pub striped : IsStriped counts
    pub vertices : d.about.vertices ≤ length counts.list
    pub raw_are : (v : ℕ) → v < d.about.vertices → count_of counts v ≡ raw (take archived d.told.seen) v
    pub few : All (λ n. n < 2 ^ 32) counts.list
