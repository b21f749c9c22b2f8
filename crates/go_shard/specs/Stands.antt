-- What a shard tells of a log.
use Rattle.std.specs.Prelude.{◌≡◌, ℕ, ◌+◌, ◌≤◌, List, [], length, All, map, filter, take, drop}
use Rattle.go_word.specs.declared.edge.Edge.{Edge}
use Rattle.go_word.specs.Log.{IsWithin, entries_from, raw}
use Rattle.go_word.specs.Neighbours.{neighbours}
use Rattle.go_word.specs.Word.{plain_word}
use Rattle.go_shard.specs.Lane.{Lane}
use Rattle.go_shard.specs.ShardState.{ShardState, IsOf, Keeps, is_own, lane_of, told}

-- a lane has what a log says of a vertex: the neighbours at the cut, after how many entries, and the later entries in order
pub record IsLaneOf (cut : ℕ) (log : List Edge) (s : ℕ) (lane : Lane) : Type 0 where
  pub base_is : lane.base ≡ neighbours (take cut log) s
  pub floor_is : lane.floor ≡ raw (take cut log) s
  pub words_are : lane.words ≡ map plain_word (entries_from s (drop cut log))

-- a shard stands for a log: it has what the log says of each of its vertices, and tells for each front that it keeps from its cut on how many
-- entries there were
pub record Stands (shard : ShardState) (log : List Edge) : Type 0 where
  pub whole : length log ≡ shard.front
  pub ids : All (IsWithin shard.vertices) log
  pub cut : shard.cut ≤ shard.front
  pub keeps_front : Keeps shard shard.front
  pub keeps_cut : Keeps shard shard.cut
  pub lanes : (s : ℕ) → IsOf shard s → IsLaneOf shard.cut log s (lane_of shard s)
  pub counts : (s f : ℕ) → IsOf shard s → Keeps shard f → shard.cut ≤ f → told shard s f ≡ raw (take f log) s

-- a log goes on from the front of a shard to another front, with just these entries of this shard
pub record GoesOn (shard : ShardState) (more batch : List Edge) (front : ℕ) : Type 0 where
  pub reach : shard.front + length more ≡ front
  pub ids : All (IsWithin shard.vertices) more
  pub own : filter (is_own shard) more ≡ batch

-- a shard has come to a later front: it keeps that and each front that it kept, and tells what it told up to the old one; without an entry it
-- came there, it keeps no more ranges
pub record HasGrown (front : ℕ) (batch : List Edge) (old new : ShardState) : Type 0 where
  pub same : new ≡ record old { front = front; fronts = new.fronts; lanes = new.lanes }
  pub keeps_front : Keeps new front
  pub keeps : (f : ℕ) → Keeps old f → Keeps new f
  pub told_before : (s f : ℕ) → IsOf old s → f ≤ old.front → told new s f ≡ told old s f
  pub none : batch ≡ [] → new.fronts ≡ old.fronts

-- a shard was compacted up to a front: it keeps each front from there on that it kept, and tells the same at each
pub record HasForgotten (front : ℕ) (old new : ShardState) : Type 0 where
  pub same : new ≡ record old { cut = front; fronts = new.fronts; lanes = new.lanes }
  pub keeps : (f : ℕ) → front ≤ f → Keeps old f → Keeps new f
  pub told_after : (s f : ℕ) → IsOf old s → front ≤ f → told new s f ≡ told old s f

-- a front is the greatest that a shard keeps from its cut on, up to a limit and to each of its pins
pub record IsSettled (shard : ShardState) (limit front : ℕ) : Type 0 where
  pub kept : Keeps shard front
  pub uncut : shard.cut ≤ front
  pub within : front ≤ limit
  pub pinned : All (λ pin. front ≤ pin.front) shard.pins
  pub greatest : (f : ℕ) → Keeps shard f → f ≤ limit → All (λ pin. f ≤ pin.front) shard.pins → f ≤ front
