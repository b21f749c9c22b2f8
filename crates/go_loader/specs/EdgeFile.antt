-- Which entries the bytes of a file of edges have.
use Rattle.std.specs.Prelude.{ℕ, Bool, if◌then◌else◌, List, drop, take, codes, Result}
use Rattle.std.specs.Str.{bytes_eq}
use Rattle.std.specs.Str.Lines.{lines}
use Rattle.go_word.specs.declared.edge.Edge.{Edge}
use Rattle.go_loader.specs.declared.fault.LoadFault.{LoadFault}
use Rattle.go_loader.specs.Reading.{Reader, AnswersItems}
use Rattle.go_loader.specs.TextFile.{line_reads}
use Rattle.go_loader.specs.BinaryFile.{pieces, piece_reads}

-- the letters of a binary file stand in front
abbrev pub is_binary : List ℕ → Bool
is_binary bytes = bytes_eq (take 8 bytes) (codes "GRONEBIN")

-- the items of a file: the words behind the letters, or the lines of a text
abbrev pub items_of : List ℕ → List (List ℕ)
items_of bytes = if is_binary bytes then pieces (drop 8 bytes) else lines bytes

-- how they read over v vertices
abbrev pub reader_of : ℕ → List ℕ → Reader
reader_of v bytes = if is_binary bytes then piece_reads v else line_reads v

-- what is answered of the bytes of a file over v vertices
abbrev pub Answers : ℕ → List ℕ → List Edge → Result (Unit {0}) LoadFault → Type 0
Answers v bytes edges result = AnswersItems (reader_of v bytes) (items_of bytes) edges result
