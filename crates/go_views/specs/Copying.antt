-- What a copy of the ring that has come to a floor tells, and the entries that its words hold.
use Rattle.std.specs.Prelude.{◌≡◌, ℕ, ◌^◌, ◌%◌, ◌<◌, ◌≤◌, List, length, map, slice_index, Contains}
use Rattle.std.specs.List.{range_with_len}
use mathlib.Core.Option.{some}
use lib.ListN.{get_elem?}
use Rattle.go_word.specs.declared.edge.Edge.{Edge}
use Rattle.go_word.specs.declared.pin.Pin.{Pin}
use Rattle.go_word.specs.Word.{decode}
use Rattle.go_core.specs.Frame.{Frame}
use Rattle.go_core.specs.Parts.{IsShardPlace}
use Rattle.go_rule.specs.declared.view.SeatView.{SeatView}
use Rattle.go_rule.specs.Rule.{IsBelow, pins_at}
use Rattle.go_ring.specs.declared.copied.Copied.{Copied}
use Rattle.go_turns.specs.Going.{HasGoneOn}

-- the entry that a word of a ring of so many slots holds for a position
abbrev pub entry_at : ℕ → List ℕ → ℕ → Edge
entry_at slots words p = decode (slice_index words (p % slots))

-- those of so many positions in a row
abbrev pub entries_at : ℕ → List ℕ → ℕ → ℕ → List Edge
entries_at slots words from count = map (entry_at slots words) (range_with_len from count)

-- a word holds the entry that was seen at a position, whose vertices are below a number
pub record HasEntry (slots vertices : ℕ) (seen : List Edge) (words : List ℕ) (p : ℕ) : Type 0 where
  pub there : get_elem? seen p ≡ some (entry_at slots words p)
  pub below : IsBelow vertices (entry_at slots words p)

module _ {P : Type 0} where
  -- the archived front as it is known after a copy: the end isn't below it, and no pin of the seat in a shard is past it
  pub record IsArchivedTo (f : Frame) (archived end : ℕ) (now : SeatView P) : Type 0 where
    pub known : now.core.archived ≡ archived
    pub within : archived ≤ end
    pub pins : (place : ℕ) → IsShardPlace f place → (pin : Pin) → Contains (pins_at place now) pin → pin.front ≤ archived

  -- the ring was copied up to an end that isn't below the floor nor below what the seat had seen; it has seen the log up to there, and from the archived
  -- front on the buffer has the entries
  pub record HasComeTo (f : Frame) (floor : ℕ) (d now : SeatView P) (copied : Copied) (buf : List ℕ) : Type 0 where
    pub on : HasGoneOn f d now
    pub floor_to : floor ≤ copied.end
    pub seen_before : d.core.seen ≤ copied.end
    pub sees : copied.end ≤ length now.told.seen
    pub long : length now.told.seen ≡ now.core.seen
    pub small : copied.end < 2 ^ 32
    pub archived : IsArchivedTo f copied.archived copied.end now
    pub entries : (p : ℕ) → copied.archived ≤ p → p < copied.end → HasEntry f.slots now.about.vertices now.told.seen buf p
