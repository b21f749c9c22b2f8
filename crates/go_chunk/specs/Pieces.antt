-- How the places for a chain's words lie in its pieces; no public contract speaks of it.
use Rattle.std.specs.Prelude.{◌≡◌, ◌==◌, ◌+◌, ◌-◌, ◌*◌, ◌^◌, ◌<◌, ℕ, List, [], ◌∷◌, length, if◌then◌else◌, ⊤}
use Rattle.std.specs.List.{flat_map}
use Rattle.go_chunk.specs.declared.classes.TheConstants.{FIRST, SECOND, LAST, GROWING}
use Rattle.go_chunk.specs.declared.classes.Piece.{Piece}
use Rattle.go_chunk.specs.declared.classes.Piece.TheVariants.{Third, Last}

-- the words in the places of a piece
abbrev pub words_of : Piece → List ℕ
words_of (Third words) = words.value
words_of (Last words) = words.value

-- the words in the places of all pieces, one piece after another
abbrev pub words_of_all : List Piece → List ℕ
words_of_all pieces = flat_map words_of pieces

-- the class of the piece at this index: by the table, and past its end the last class
abbrev pub class_at : List ℕ → ℕ → ℕ
class_at [] index = LAST
class_at (class ∷ classes) index = if index == 0 then class else class_at classes (index - 1)

-- how many places lie in front of the piece at this index
abbrev pub start_of : List ℕ → ℕ → ℕ
start_of [] index = index * LAST
start_of (class ∷ classes) index = if index == 0 then 0 else class + start_of classes (index - 1)

-- the table without its first class
abbrev pub later_classes : List ℕ → List ℕ
later_classes [] = []
later_classes (_ ∷ classes) = classes

-- the pieces have the classes of the table
abbrev pub HaveClasses : List ℕ → List Piece → Type 0
HaveClasses classes [] = ⊤
HaveClasses classes (piece ∷ pieces) = (length (words_of piece) ≡ class_at classes 0) × HaveClasses (later_classes classes) pieces

-- behind a chain's first chunk lie the places of the second, and pieces of the classes of the table
pub record IsSpilled (second : List ℕ) (later : List Piece) : Type 0 where
  pub long : length second ≡ SECOND
  pub classes : HaveClasses GROWING later

-- a chain's words take the first of its places, the places that are left are spare, and all can be counted
pub record IsKept (first spilled : List ℕ) (len spare : ℕ) : Type 0 where
  pub long : length first ≡ FIRST
  pub room : len + spare ≡ FIRST + length spilled
  pub fits : len + spare < 2 ^ 64
