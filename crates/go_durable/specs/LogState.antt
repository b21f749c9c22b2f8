-- A log on its disk, as contracts see it.
use Rattle.std.specs.Prelude.{◌≡◌, ℕ, ◌+◌, ◌*◌, ◌^◌, ◌<◌, ◌≤◌, All, List, length, get_or, take, drop, sum_by}
use Rattle.go_word.specs.declared.edge.Edge.{Edge}
use Rattle.go_blocks.specs.declared.layout.TheConstants.{COUNT_LIMIT, FIRST_GATE, WORDS_AT}
use Rattle.go_blocks.specs.declared.log_file.BlockPlace.{BlockPlace}
use Rattle.go_blocks.specs.File.{IsVertexCount}

-- the disk, the number of vertices, the number of entries, the place of the closed gate, and the places of the blocks
pub record LogState (D : Type 0) : Type 0 where
  pub disk : D
  pub vertices : ℕ
  pub front : ℕ
  pub gate : ℕ
  pub places : List BlockPlace

-- a log that was opened, with its entries
pub record OpenedLog (D : Type 0) : Type 0 where
  pub log : LogState D
  pub edges : List Edge

-- how many entries the blocks at these places have
abbrev pub entries_at : List BlockPlace → ℕ
entries_at places = sum_by (λ place. place.count) places

-- the bytes of a block's words, by its place
abbrev pub words_at : BlockPlace → List ℕ → List ℕ
words_at place bytes = take (8 * place.count) (drop (place.gate + WORDS_AT) bytes)

-- the entries of the block that has this place, the one of this number among them: those behind the entries of the earlier ones
abbrev pub entries_of_place : List BlockPlace → ℕ → BlockPlace → List Edge → List Edge
entries_of_place places i place log = take place.count (drop (entries_at (take i places)) log)

-- a block at this place is within the limit, and it ends where the closed gate stands or before it
pub record IsPlacedBefore (gate : ℕ) (place : BlockPlace) : Type 0 where
  pub few : place.count ≤ COUNT_LIMIT
  pub ends : place.gate + WORDS_AT + 8 * place.count ≤ gate

-- the block of this number has an entry, and its gate stands behind the earlier blocks: each of these takes five bytes, and eight for each entry
pub record IsInRow (places : List BlockPlace) (i : ℕ) (place : BlockPlace) : Type 0 where
  pub some : 0 < place.count
  pub gate_is : place.gate ≡ FIRST_GATE + WORDS_AT * i + 8 * entries_at (take i places)

-- the blocks stand one behind the other
abbrev pub AreInRow : List BlockPlace → Type 0
AreInRow places = (i : ℕ) (d : BlockPlace) → i < length places → IsInRow places i (get_or places i d)

-- what holds of the numbers of each log, whatever its disk does: each entry takes at most 13 bytes, a block's frame included
pub record IsSound (vertices front gate : ℕ) (places : List BlockPlace) : Type 0 where
  pub vertex_count : IsVertexCount vertices
  pub near : gate ≤ FIRST_GATE + 13 * front
  pub all : entries_at places ≡ front
  pub gate_is : gate ≡ FIRST_GATE + WORDS_AT * length places + 8 * front
  pub placed : All (IsPlacedBefore gate) places
  pub in_row : AreInRow places
  pub small : front < 2 ^ 32
