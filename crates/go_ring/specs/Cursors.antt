-- Where a cursor stands among the words of a ring.
use Rattle.std.specs.Prelude.{◌≡◌, ℕ, ◌+◌, ◌%◌, false}
use Rattle.go_word.specs.declared.edge.Edge.{Edge}
use Rattle.go_word.specs.Word.{word}
use Rattle.go_core.specs.Frame.{Frame, place}
use Rattle.go_ring.specs.declared.cursor.Cursor.{Cursor}

-- the edge whose word has nothing but the rotation of its lap
abbrev pub no_edge : Edge
no_edge = record { del = false; src = 0; dst = 0 }

-- a cursor stands at a position: it has the index of its word, how many positions of its lap are left, and the rotation of the lap's words
pub record IsCursorAt (f : Frame) (p : ℕ) (c : Cursor) : Type 0 where
  pub index : c.index ≡ place f p
  pub left : p % f.slots + c.left ≡ f.slots
  pub rotation : c.rotation ≡ word f.slots p no_edge
