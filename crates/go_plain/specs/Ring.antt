-- What contracts see of a ring, and how its entries are chained.
use Rattle.std.specs.Prelude.{◌≡◌, ◌==◌, ℕ, ◌+◌, ◌<◌, ◌≤◌, if◌then◌else◌, List, [], ◌∷◌, length, All, get_or, take}
use Rattle.go_word.specs.declared.edge.Edge.{Edge}
use Rattle.go_word.specs.Log.{IsWithin, leaves}
use Rattle.go_word.specs.declared.edge.TheConstants.{VERTEX_LIMIT}
use Rattle.go_api.specs.declared.limits.TheConstants.{SLOT_LIMIT}

-- a ring has entries in the order of their arrival, of each the number of the session that put it, room for so many, and so many vertices that they
-- may be between
pub record RingState : Type 0 where
  pub entries : List Edge
  pub owners : List ℕ
  pub room : ℕ
  pub vertices : ℕ

-- what is true of every ring
pub record IsRing (ring : RingState) : Type 0 where
  pub some : 1 ≤ ring.room
  pub small : ring.room ≤ SLOT_LIMIT
  pub few : ring.vertices ≤ VERTEX_LIMIT
  pub within : length ring.entries ≤ ring.room
  pub owned : length ring.owners ≡ length ring.entries
  pub ids : All (IsWithin ring.vertices) ring.entries

-- the number of the latest entry that leaves s, counted from 1, and 0 where none does
abbrev pub latest_of : ℕ → List Edge → ℕ
latest_of s [] = 0
latest_of s (e ∷ log) = if latest_of s log == 0 then (if leaves s e then 1 else 0) else latest_of s log + 1

-- each vertex is told its latest entry, and each entry the one before it that leaves the same vertex
pub record IsChained (entries : List Edge) (latest prior : List ℕ) : Type 0 where
  pub slots : length prior ≡ length entries
  pub told : (s : ℕ) → s < length latest → get_or latest s 0 ≡ latest_of s entries
  pub linked : (k : ℕ) (d : Edge) → k < length entries → get_or prior k 0 ≡ latest_of (get_or entries k d).src (take k entries)
