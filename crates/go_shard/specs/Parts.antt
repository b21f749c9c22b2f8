-- How shards have their parts of a log.
use Rattle.std.specs.Prelude.{◌≡◌, ◌⊎◌, ℕ, ◌^◌, ◌<◌, ◌≤◌, List, [], ◌++◌, length, take, drop, map, get_or, All, Contains}
use Rattle.go_word.specs.declared.edge.Edge.{Edge}
use Rattle.go_word.specs.Log.{IsWithin}
use Rattle.go_shard.specs.ShardState.{ShardState, Keeps}
use Rattle.go_shard.specs.Stands.{Stands, HasForgotten}

-- a shard is the one at an index, of so many over so many vertices
pub record IsShardOf (v shards i : ℕ) (shard : ShardState) : Type 0 where
  pub index_is : shard.index ≡ i
  pub shards_are : shard.shards ≡ shards
  pub vertices_are : shard.vertices ≡ v

-- a shard answers for views: it keeps the front of each to which it has come, and is cut above none
pub record AnswersFor (views : List ℕ) (shard : ShardState) : Type 0 where
  pub keeps : (n : ℕ) → Contains views n → n ≤ shard.front → Keeps shard n
  pub uncut : (n : ℕ) → Contains views n → shard.cut ≤ n

-- the shard i of so many has its part of a log, at least up to a front; it keeps that front and isn't cut above it, answers for views, and has no
-- pins
pub record HasPart (v shards i from : ℕ) (views : List ℕ) (log : List Edge) (shard : ShardState) : Type 0 where
  pub whose : IsShardOf v shards i shard
  pub stands : Stands shard (take shard.front log)
  pub begun : from ≤ shard.front
  pub within : shard.front ≤ length log
  pub keeps : Keeps shard from
  pub cut : shard.cut ≤ from
  pub answers : AnswersFor views shard
  pub pins : shard.pins ≡ []

-- the shards have their parts of a log
pub record HaveParts (v so_many from : ℕ) (views : List ℕ) (log : List Edge) (shards : List ShardState) : Type 0 where
  pub some : 1 ≤ so_many
  pub few : so_many < 2 ^ 32
  pub count : length shards ≡ so_many
  pub each : (i : ℕ) (d : ShardState) → i < so_many → HasPart v so_many i from views log (get_or shards i d)

-- each shard has come to a front
pub record AllHaveCome (front : ℕ) (shards : List ShardState) : Type 0 where
  pub each : (i : ℕ) (d : ShardState) → i < length shards → front ≤ (get_or shards i d).front

-- a front isn't between two others
abbrev pub IsBeside : ℕ → ℕ → ℕ → Type 0
IsBeside start end front = (front ≤ start) ⊎ (end ≤ front)

-- these are the entries of a log behind a front, and the shards have their parts of it at least up to there
pub record IsBehind (v so_many from : ℕ) (views : List ℕ) (log newest : List Edge) (shards : List ShardState) : Type 0 where
  pub parts : HaveParts v so_many from views log shards
  pub newest_are : newest ≡ drop from log
  pub from_within : from ≤ length log
  pub ids : All (IsWithin v) log
  pub small : length log < 2 ^ 32

-- there is such a log
pub record AreBehind (from : ℕ) (views : List ℕ) (newest : List Edge) (shards : List ShardState) : Type 0 where
  pub v : ℕ
  pub so_many : ℕ
  pub log : List Edge
  pub behind : IsBehind v so_many from views log newest shards

-- all fronts at which a piece of the log must end: those of views, and those at which shards are
abbrev pub stops_of : List ShardState → List ℕ → List ℕ
stops_of shards views = views ++ map (λ shard. shard.front) shards

-- a shard can be compacted at a front: it keeps it, is cut at or below it, and has no pins
pub record CanBeCompacted (front : ℕ) (shard : ShardState) : Type 0 where
  pub keeps : Keeps shard front
  pub uncut : shard.cut ≤ front
  pub pins : shard.pins ≡ []

-- each of them can
pub record CanAllBeCompacted (front : ℕ) (shards : List ShardState) : Type 0 where
  pub each : (i : ℕ) (d : ShardState) → i < length shards → CanBeCompacted front (get_or shards i d)

-- a compaction up to a front goes past no front that is asked for: not past the one up to which the shards have their parts, nor past a view
pub record IsUncut (front from : ℕ) (views : List ℕ) : Type 0 where
  pub behind : front ≤ from
  pub uncut : (n : ℕ) → Contains views n → front ≤ n

-- a shard was compacted up to a front, and still stands for each log that it stood for
pub record HasCompacted (front : ℕ) (old new : ShardState) : Type 0 where
  pub forgotten : HasForgotten front old new
  pub stands : (log : List Edge) → Stands old log → Stands new log

-- or it is what it was
abbrev pub MayHaveCompacted : ℕ → ShardState → ShardState → Type 0
MayHaveCompacted front old new = (new ≡ old) ⊎ HasCompacted front old new

-- each shard may have been compacted
pub record MayAllHaveCompacted (front : ℕ) (old new : List ShardState) : Type 0 where
  pub count : length new ≡ length old
  pub each : (i : ℕ) (d : ShardState) → i < length old → MayHaveCompacted front (get_or old i d) (get_or new i d)

-- each shard is cut at a front
pub record AllAreCut (front : ℕ) (shards : List ShardState) : Type 0 where
  pub each : (i : ℕ) (d : ShardState) → i < length shards → (get_or shards i d).cut ≡ front
