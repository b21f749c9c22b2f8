-- Where the shared words stand: four words, a turn for each part, and the slots of the ring.
use Rattle.std.specs.Prelude.{ℕ, ◌+◌, ◌%◌, min, List, slice_index}

-- the number of slots, the index of the first slot's word, and the first position that the ring serves
pub record Frame : Type 0 where
  pub slots : ℕ
  pub base : ℕ
  pub first : ℕ

-- the index of the word that serves a position
abbrev pub place : Frame → ℕ → ℕ
place f p = f.base + p % f.slots

-- the word that serves a position
abbrev pub slot : Frame → List ℕ → ℕ → ℕ
slot f words p = slice_index words (place f p)

-- the length of the log
abbrev pub head_in : List ℕ → ℕ
head_in words = slice_index words 0

-- the archived front
abbrev pub archived_in : List ℕ → ℕ
archived_in words = slice_index words 1

-- the durable front
abbrev pub durable_in : List ℕ → ℕ
durable_in words = slice_index words 2

-- the flag: 0, or why the work stopped
abbrev pub flag_in : List ℕ → ℕ
flag_in words = slice_index words 3

-- below this position each entry is archived and durable, so its slot may serve the next lap
abbrev pub released : List ℕ → ℕ
released words = min (archived_in words) (durable_in words)
