-- How far an update is to go, and the entries that words hold.
use Rattle.std.specs.Prelude.{ℕ, zero, suc, ◌+◌, ◌%◌, ◌≤◌, min, List, [], ◌∷◌, slice_index}
use Rattle.go_word.specs.declared.edge.Edge.{Edge}
use Rattle.go_word.specs.Word.{decode}
use Rattle.go_ring.specs.declared.copied.Copied.{Copied}
use Rattle.go_ring.specs.Copies.{IsCutOff}
use Rattle.go_stream.specs.declared.wanted.Wanted.{Wanted}

-- up to where entries are given by an end: as many as may be, and none past it
abbrev pub upto : Wanted → ℕ → ℕ
upto wanted end = min (wanted.from + wanted.most) end

-- a copy has come to the floor, and where it tells no word, all that is given is durable
abbrev pub IsEnough : Wanted → Copied → Type 0
IsEnough wanted copied = (wanted.floor ≤ copied.end) × (IsCutOff copied copied.stop → upto wanted copied.end ≤ copied.durable)

-- the entries of so many words in a row from a position on, each in the slot of its position's remainder
abbrev pub entries_from : ℕ → ℕ → ℕ → List ℕ → List Edge
entries_from slots p zero words = []
entries_from slots p (suc n) words = decode (slice_index words (p % slots)) ∷ entries_from slots (p + 1) n words
