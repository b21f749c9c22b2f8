-- The words by which the kinds of fault are told.
use Rattle.std.specs.Prelude.{ℕ, List, codes}
use Rattle.go_text.specs.declared.faults.FaultKind.{FaultKind}
use Rattle.go_text.specs.declared.faults.FaultKind.TheVariants.{Word, Count, Number, Vertex, Name, Place, Until, Short}

-- the word for a kind of fault, in lower case
abbrev pub word_of : FaultKind → List ℕ
word_of Word = codes "word"
word_of Count = codes "count"
word_of Number = codes "number"
word_of Vertex = codes "vertex"
word_of Name = codes "name"
word_of Place = codes "place"
word_of Until = codes "until"
word_of Short = codes "short"
