-- What a shard tells a view of a vertex.
use Rattle.std.specs.Prelude.{◌≡◌, ℕ, ◌≤◌, List, ◌++◌, take, map, All, Contains, Result, Ok, Err}
use Rattle.go_word.specs.declared.edge.Edge.{Edge}
use Rattle.go_word.specs.declared.pin.Pin.{Pin}
use Rattle.go_word.specs.Log.{IsWithin, entries_from}
use Rattle.go_word.specs.Neighbours.{neighbours}
use Rattle.go_word.specs.Word.{plain_word}
use Rattle.go_shard.specs.ShardState.{ShardState, IsOf}
use Rattle.go_shard.specs.Stands.{Stands}

-- a vertex is one of a shard's, which has a pin
pub record HasPinned (v : ℕ) (pin : Pin) (shard : ShardState) : Type 0 where
  pub own : IsOf shard v
  pub pinned : Contains shard.pins pin

-- a list has the neighbours of a vertex at a shard's pin, by each log that the shard stands for, and after what came behind in these words
pub record IsListOf (v : ℕ) (pin : Pin) (later list : List ℕ) (shard : ShardState) : Type 0 where
  pub within : pin.front ≤ shard.front
  pub list_is : (log more : List Edge) → Stands shard log → All (IsWithin shard.vertices) more → later ≡ map plain_word (entries_from v more)
      → list ≡ neighbours (take pin.front log ++ more) v

-- it has, where there was memory
abbrev pub Lists : {A E : Type 0} → ℕ → Pin → List ℕ → Result A E → List ℕ → ShardState → Type 0
Lists v pin later (Ok done) list shard = IsListOf v pin later list shard
Lists v pin later (Err why) list shard = Unit {0}
