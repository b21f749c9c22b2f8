-- The neighbours of the first vertices after one front, side by side.
use Rattle.std.specs.Prelude.{◌≡◌, ◌⊎◌, ℕ, ◌<◌, ◌≤◌, List, [], ◌∷◌, ◌++◌, length, take, get_or, Contains}
use Rattle.go_word.specs.declared.edge.Edge.{Edge}
use Rattle.go_word.specs.Neighbours.{neighbours}
use Rattle.go_plain.specs.Plain.{PlainState}
use Rattle.go_plain.specs.Seats.{all_views}

-- rows of a front: by vertex a list
pub record RowsState : Type 0 where
  pub front : ℕ
  pub rows : List (List ℕ)

-- each row has the neighbours of its vertex after so many first entries of a log
pub record AreRowsOf (log : List Edge) (held : RowsState) : Type 0 where
  pub within : held.front ≤ length log
  pub each : (v : ℕ) → v < length held.rows → get_or held.rows v [] ≡ neighbours (take held.front log) v

-- the row of a vertex after a front was taken over behind the others of that front, or as the first one
pub record HasTakenRow (front v : ℕ) (row : List ℕ) (old new : RowsState) : Type 0 where
  pub taken : new ≡ record { front = front; rows = old.rows ++ row ∷ [] }
  pub next : v ≡ length old.rows
  pub same : (old.rows ≡ []) ⊎ (old.front ≡ front)

-- or nothing changed
abbrev pub MayTakeRow : ℕ → ℕ → List ℕ → RowsState → RowsState → Type 0
MayTakeRow front v row old new = (new ≡ old) ⊎ HasTakenRow front v row old new

-- a view of some session has this front, which is no greater than the log's length
pub record HasView {D : Type 0} (store : PlainState D) (front : ℕ) : Type 0 where
  pub among : Contains (all_views store.seats) front
  pub within : front ≤ length store.log
