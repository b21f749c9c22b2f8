-- The words of a binary file of edges: eight bytes each, the lowest first, behind eight letters.
use Rattle.std.specs.Prelude.{ℕ, ◌==◌, ◌&&◌, Bool, if◌then◌else◌, List, [], ◌∷◌, length, nat_lt, Option, Some, Result, Ok, Err}
use Rattle.byteorder.specs.Endian.{little_number}
use Rattle.go_text.specs.Steps.{◌>>=◌}
use Rattle.go_text.specs.declared.faults.FaultKind.{FaultKind}
use Rattle.go_text.specs.declared.faults.FaultKind.TheVariants.{Number, Short, Vertex}
use Rattle.go_word.specs.Word.{decode, rotation_of}
use Rattle.go_word.specs.declared.edge.Edge.{Edge}

-- the pieces of eight bytes, and at the end what is left, where that is less
abbrev pub pieces : List ℕ → List (List ℕ)
pieces [] = []
pieces (a ∷ b ∷ c ∷ d ∷ e ∷ f ∷ g ∷ h ∷ more) = (a ∷ b ∷ c ∷ d ∷ e ∷ f ∷ g ∷ h ∷ []) ∷ pieces more
pieces rest = rest ∷ []

-- both vertices of an entry are below v
abbrev pub is_below : ℕ → Edge → Bool
is_below v edge = nat_lt edge.src v && nat_lt edge.dst v

-- what a word reads as: its rotation bit is clear, and its vertices are below v
abbrev pub word_reads : ℕ → ℕ → Result Edge FaultKind
word_reads v word =
    if rotation_of word == 1 then Err Number else (if is_below v (decode word) then Ok (decode word) else Err Vertex)

-- what a piece reads as: its word, where it has eight bytes
abbrev pub piece_reads : ℕ → List ℕ → Result (Option Edge) FaultKind
piece_reads v piece =
    if length piece == 8 then (word_reads v (little_number 8 piece) >>= λ edge. Ok (Some edge)) else Err Short
