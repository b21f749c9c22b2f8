-- What the contracts see of a shard.
use Rattle.std.specs.Prelude.{◌≡◌, ◌==◌, ◌⊎◌, ℕ, ◌+◌, ◌^◌, ◌<◌, ◌≤◌, ◌/◌, ◌%◌, Bool, List, length, map, All}
use Rattle.go_word.specs.declared.edge.Edge.{Edge}
use Rattle.go_word.specs.declared.edge.TheConstants.{VERTEX_LIMIT}
use Rattle.go_word.specs.declared.pin.Pin.{Pin}
use Rattle.go_versions.specs.History.{count_at, IsRising}
use Rattle.go_shard.specs.Fronts.{Fronts, IsInOne}
use Rattle.go_shard.specs.Lane.{Lane, lane_at, known}

-- a shard is one of so many over so many vertices; it knows the log up to its front, has compacted it up to its cut, answers for the fronts that
-- it keeps, has pins that
-- hold the cut back, and has a lane for each vertex of its own
pub record ShardState : Type 0 where
  pub index : ℕ
  pub shards : ℕ
  pub vertices : ℕ
  pub front : ℕ
  pub cut : ℕ
  pub fronts : Fronts
  pub pins : List Pin
  pub lanes : List Lane

-- a vertex is one of this shard's
pub record IsOf (shard : ShardState) (s : ℕ) : Type 0 where
  pub within : s < shard.vertices
  pub turn : s % shard.shards ≡ shard.index

-- an entry leaves a vertex of this shard
abbrev pub is_own : ShardState → Edge → Bool
is_own shard e = e.src % shard.shards == shard.index

-- a shard answers for a front
abbrev pub Keeps : ShardState → ℕ → Type 0
Keeps shard front = IsInOne front shard.fronts.earlier ⊎ ((shard.fronts.since ≤ front) × (front ≤ shard.front))

-- what a shard holds of a vertex
abbrev pub lane_of : ShardState → ℕ → Lane
lane_of shard s = lane_at shard.lanes (s / shard.shards)

-- how many entries a shard tells that a vertex had at a front
abbrev pub told : ShardState → ℕ → ℕ → ℕ
told shard s front = count_at (lane_of shard s).versions front

-- a lane is at rest between a cut and a front: nothing is promised, it has no more entries than that, and what it tells at the cut and at the
-- front are all that it has
pub record IsAtRest (cut front : ℕ) (lane : Lane) : Type 0 where
  pub settled : lane.promised ≡ 0
  pub few : known lane ≤ front
  pub earlier : All (λ v. v.front ≤ front) lane.versions
  pub no_less : All (λ v. v.count ≤ known lane) lane.versions
  pub rising : IsRising lane.versions
  pub at_cut : count_at lane.versions cut ≡ lane.floor
  pub at_front : count_at lane.versions front ≡ known lane
  pub retired : lane.retired ≤ cut

-- how many entries a shard tells that each of its vertices had at a front, by their places
abbrev pub counts_of : ShardState → ℕ → List ℕ
counts_of shard front = map (λ (lane : Lane). count_at lane.versions front) shard.lanes

-- a pin stands at a front that is kept, and not below the cut
pub record IsPinned (shard : ShardState) (pin : Pin) : Type 0 where
  pub kept : Keeps shard pin.front
  pub uncut : shard.cut ≤ pin.front

-- there is a lane for each vertex of a shard
pub record IsShaped (shards vertices : ℕ) (lanes : List Lane) : Type 0 where
  pub shared : 0 < shards
  pub few : vertices ≤ VERTEX_LIMIT
  pub whole : length lanes ≡ vertices / shards + 1

-- a cut and the fronts that are kept are at or below a front, which is small
pub record AreBounded (front cut : ℕ) (fronts : Fronts) : Type 0 where
  pub small : front < 2 ^ 32
  pub cut_within : cut ≤ front
  pub since : fronts.since ≤ front
  pub earlier : All (λ range. range.last ≤ front) fronts.earlier

-- a shard has a lane for each vertex of its own, and all of them are at rest between its cut and its front; it keeps both, no front past its own,
-- and the fronts of its pins
pub record IsSound (shard : ShardState) : Type 0 where
  pub shape : IsShaped shard.shards shard.vertices shard.lanes
  pub bounds : AreBounded shard.front shard.cut shard.fronts
  pub keeps_cut : Keeps shard shard.cut
  pub pins : All (IsPinned shard) shard.pins
  pub rest : All (IsAtRest shard.cut shard.front) shard.lanes
