-- The lines of a text of edges: two vertices each, behind a mark where the edge is deleted.
use Rattle.std.specs.Prelude.{ℕ, ◌==◌, Bool, true, false, if◌then◌else◌, List, [], ◌∷◌, length, drop, slice_index, nat_lt, Option, Some, None, Result, Ok, Err}
use Rattle.go_text.specs.Arguments.{vertex_in}
use Rattle.go_text.specs.Steps.{◌>>=◌}
use Rattle.go_text.specs.Texts.{is_skipped}
use Rattle.go_text.specs.Word.{words}
use Rattle.go_text.specs.declared.faults.FaultKind.{FaultKind}
use Rattle.go_text.specs.declared.faults.FaultKind.TheVariants.{Count}
use Rattle.go_word.specs.declared.edge.Edge.{Edge}

-- an entry by two words, each a vertex below v
abbrev pub entry_of : ℕ → Bool → List (List ℕ) → Result Edge FaultKind
entry_of v del (src ∷ dst ∷ []) =
    vertex_in v src >>= λ s. vertex_in v dst >>= λ d. Ok (record { del = del; src = s; dst = d })
entry_of v del _ = Err Count

-- the first word begins with '-', the mark of a deletion
abbrev pub is_marked : List (List ℕ) → Bool
is_marked [] = false
is_marked (word ∷ others) = slice_index word 0 == 45

-- what stands behind the mark: the rest of its word, where there is one, and the other words
abbrev pub behind_mark : List (List ℕ) → List (List ℕ)
behind_mark [] = []
behind_mark (word ∷ others) = if nat_lt 1 (length word) then drop 1 word ∷ others else others

-- the entry that a line with these words writes
abbrev pub entry_by : ℕ → List (List ℕ) → Result Edge FaultKind
entry_by v line = if is_marked line then entry_of v true (behind_mark line) else entry_of v false line

-- what a line with these words reads as: nothing where it is skipped
abbrev pub words_read : ℕ → List (List ℕ) → Result (Option Edge) FaultKind
words_read v line = if is_skipped line then Ok None else (entry_by v line >>= λ edge. Ok (Some edge))

-- what a line reads as
abbrev pub line_reads : ℕ → List ℕ → Result (Option Edge) FaultKind
line_reads v line = words_read v (words line)
