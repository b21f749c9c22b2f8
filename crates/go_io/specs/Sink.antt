-- How a sink stands, and how a call adds to it.
use Rattle.std.specs.Prelude.{◌≡◌, ℕ, ◌<◌, ◌≤◌, List, ◌++◌, length, take, Option, None, Some}

-- how a sink stands: all bytes taken so far, where it tells, and how often it has failed
pub record SinkState : Type 0 where
  pub taken : Option (List ℕ)
  pub faults : ℕ

-- all bytes taken so far and then these; where the sink doesn't tell, it goes on not telling
abbrev pub taken_with : Option (List ℕ) → List ℕ → Option (List ℕ)
taken_with None bytes = None
taken_with (Some taken) bytes = Some (taken ++ bytes)

-- the sink took exactly these bytes
abbrev pub Takes : SinkState → SinkState → List ℕ → Type 0
Takes before after bytes = after.taken ≡ taken_with before.taken bytes

-- the sink took nothing
abbrev pub TakesNothing : SinkState → SinkState → Type 0
TakesNothing before after = after.taken ≡ before.taken

-- a count of bytes taken of a piece: no more than it has, and at least one of a piece that isn't empty
pub record IsTake (count : ℕ) (piece : List ℕ) : Type 0 where
  pub within : count ≤ length piece
  pub some_byte : 0 < length piece → 0 < count

-- the sink took the first bytes of the piece, maybe none, and not all of them
abbrev pub TakesPrefix : SinkState → SinkState → List ℕ → Type 0
TakesPrefix before after piece = (count : ℕ) × (count < length piece) × Takes before after (take count piece)
