-- What it means that shards take their batches of a piece of a log.
use Rattle.std.specs.Prelude.{◌≡◌, ◌⊎◌, ℕ, ◌-◌, ◌^◌, ◌<◌, ◌≤◌, true, List, [], ◌++◌, length, get_or, All}
use Rattle.go_word.specs.declared.edge.Edge.{Edge}
use Rattle.go_word.specs.Log.{IsWithin}
use Rattle.go_shard.specs.ShardState.{ShardState, is_own}
use Rattle.go_shard.specs.Stands.{Stands, GoesOn, HasGrown}

-- a shard may take a batch from one front to a later one
pub record CanTake (start end : ℕ) (shard : ShardState) (batch : List Edge) : Type 0 where
  pub later : start < end
  pub small : end < 2 ^ 32
  pub short : length batch ≤ end - start
  pub ids : All (IsWithin shard.vertices) batch
  pub own : All (λ e. is_own shard e ≡ true) batch

-- each shard may take its batch
pub record CanAllTake (start end : ℕ) (shards : List ShardState) (batches : List (List Edge)) : Type 0 where
  pub each : (i : ℕ) (d : ShardState) → i < length shards → CanTake start end (get_or shards i d) (get_or batches i [])

-- a shard at the first of two fronts has taken a batch up to the second
pub record HasTaken (start end : ℕ) (batch : List Edge) (old new : ShardState) : Type 0 where
  pub was_at : old.front ≡ start
  pub grown : HasGrown end batch old new
  pub stands : (log more : List Edge) → Stands old log → GoesOn old more batch end → Stands new (log ++ more)

-- a shard has taken a batch, or is what it was
abbrev pub MayHaveTaken : ℕ → ℕ → List Edge → ShardState → ShardState → Type 0
MayHaveTaken start end batch old new = (new ≡ old) ⊎ HasTaken start end batch old new

-- each shard may have taken its batch
pub record MayAllHaveTaken (start end : ℕ) (batches : List (List Edge)) (old new : List ShardState) : Type 0 where
  pub count : length new ≡ length old
  pub each : (i : ℕ) (d : ShardState) → i < length old → MayHaveTaken start end (get_or batches i []) (get_or old i d) (get_or new i d)

-- no shard is at a front any more
pub record NoneIsAt (start : ℕ) (shards : List ShardState) : Type 0 where
  pub each : (i : ℕ) (d : ShardState) → i < length shards → (get_or shards i d).front ≡ start → ⊥
