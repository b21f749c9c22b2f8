-- What the words of one vertex make of its neighbours.
use Rattle.std.specs.Prelude.{ℕ, List, fold}
use Rattle.go_word.specs.Word.{decode}
use Rattle.go_word.specs.Neighbours.{after_entry}

-- what the entry in a word makes of the neighbours of the vertex that it leaves
abbrev pub after_word : List ℕ → ℕ → List ℕ
after_word before word = after_entry (decode word).src before (decode word)

-- the neighbours of a vertex after the entries in its words, one by one, from those before
abbrev pub net_of : List ℕ → List ℕ → List ℕ
net_of before words = fold after_word before words
