-- The word of an entry: an entry and the lap of its position in one number of 64 bits.
use Rattle.std.specs.Prelude.{◌≡◌, ℕ, ◌+◌, ◌-◌, ◌*◌, ◌/◌, ◌%◌, ◌==◌, Bool, if◌then◌else◌}
use Rattle.go_word.specs.declared.edge.Edge.{Edge}
use Rattle.go_word.specs.declared.word.TheConstants.{DELETION, ROTATION, SOURCE, DESTINATION, ID_LIMIT}
use Rattle.go_word.specs.Log.{IsWithin}

-- a word can hold the entry
pub record IsStorable (e : Edge) : Type 0 where
  pub within : IsWithin ID_LIMIT e

-- the rotation bit of position p in a ring of n slots: 1 on even laps, 0 on odd ones
unfoldable pub rotation : ℕ → ℕ → ℕ
rotation n p = 1 - p / n % 2

-- the rotation bit of a word
unfoldable pub rotation_of : ℕ → ℕ
rotation_of w = w / ROTATION % 2

-- the entry that a word holds
unfoldable pub decode : ℕ → Edge
decode w = record { del = w / DELETION % 2 == 1; src = w / SOURCE % ID_LIMIT; dst = w / DESTINATION % ID_LIMIT }

-- the word of an entry in a file, where no positions go round
unfoldable pub plain_word : Edge → ℕ
plain_word e = (if e.del then DELETION else 0) + e.src * SOURCE + e.dst * DESTINATION

-- the word of an entry at position p in a ring of n slots
unfoldable pub word : ℕ → ℕ → Edge → ℕ
word n p e = plain_word e + rotation n p * ROTATION

-- whether a word is of the lap of position p in a ring of n slots, and not of the lap before or after it
unfoldable pub is_matched : ℕ → ℕ → ℕ → Bool
is_matched n p w = rotation_of w == rotation n p

-- what a slot holds before the word of position p: nothing but the rotation bit that p doesn't have
unfoldable pub blank_word : ℕ → ℕ → ℕ
blank_word n p = (1 - rotation n p) * ROTATION

-- a word is that of an entry in a file over v vertices
pub record IsPlain (v w : ℕ) : Type 0 where
  pub unrotated : rotation_of w ≡ 0
  pub within : IsWithin v (decode w)
