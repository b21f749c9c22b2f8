-- What a copy of the ring's words tells its seat.
use Rattle.std.specs.Prelude.{◌≡◌, ℕ, ◌+◌, ◌%◌, ◌^◌, ◌<◌, ◌≤◌, min, true, false, List, [], length, take, All, Contains, slice_index}
use Rattle.atomic_table.specs.Table.{Me, step}
use mathlib.Core.Option.{none}
use Rattle.go_word.specs.Word.{is_matched}
use Rattle.go_core.specs.declared.entry.Load.{Load}
use Rattle.go_core.specs.declared.part.PartState.{PartState}
use Rattle.go_core.specs.Frame.{Frame}
use Rattle.go_core.specs.Parts.{IsShardPlace}
use Rattle.go_rule.specs.declared.view.Note.{Note}
use Rattle.go_rule.specs.declared.view.PlacedPin.{PlacedPin}
use Rattle.go_rule.specs.declared.view.SeatView.{SeatView}
use Rattle.go_rule.specs.Steps.{IsWordOf, LoadsHead, LoadsArchived, LoadsDurable}
use Rattle.go_ring.specs.declared.copied.Copied.{Copied}
use Rattle.go_ring.specs.declared.copied.CopyStop.{CopyStop}
use Rattle.go_ring.specs.declared.copied.CopyStop.TheVariants.{Head, Unwritten, Window}

-- the word of a position was read ahead, and wasn't matched
pub record IsGap (slots : ℕ) (loads : List Load) (p : ℕ) : Type 0 where
  pub load : Load
  pub there : Contains loads load
  pub at : load.at ≡ p
  pub unmatched : is_matched slots load.at load.word ≡ false

-- a copy stopped at the window's end with the archived front as its own end, so that no word is told
abbrev pub IsCutOff : Copied → CopyStop → Type 0
IsCutOff copied (Window from) = copied.end ≡ copied.archived
IsCutOff copied _ = ⊥

module _ {P : Type 0} where
  -- what a copy leaves of a seat's view: all but the length and the fronts that it knows, what it has seen, and what it read ahead
  abbrev pub but_copied : SeatView P → SeatView P
  but_copied d = record d {
    core = record d.core { seen = 0; head = 0; archived = 0; durable = 0; loads = []; marked = 0; fresh = false };
    told = record d.told { seen = []; passed = 0 };
  }

  -- a seat knows no less of the length, of the fronts and of the log than before, and has done nothing else
  pub record GoesOn (d e : SeatView P) : Type 0 where
    pub rest : but_copied e ≡ but_copied d
    pub begins : d.told.seen ≡ take (length d.told.seen) e.told.seen
    pub head : d.core.head ≤ e.core.head
    pub archived : d.core.archived ≤ e.core.archived
    pub durable : d.core.durable ≤ e.core.durable
    pub seen : d.core.seen ≤ e.core.seen
    pub passed : d.told.passed ≤ e.told.passed

  -- why a copy ended there: at the length, at a word that wasn't matched, or a lap past what was released as it began
  abbrev pub StopIs : ℕ → ℕ → SeatView P → SeatView P → Copied → CopyStop → Type 0
  StopIs slots released d now copied (Head head) = (head ≡ copied.end) × (now.core.head ≡ copied.end)
  StopIs slots released d now copied (Unwritten position) =
      (position ≡ copied.end) × IsGap slots now.core.loads copied.end × (copied.end < now.core.head)
  StopIs slots released d now copied (Window from) =
      (from ≡ released) × (from + slots ≤ copied.end) × (min d.core.archived d.core.durable ≤ from) × (from ≤ min copied.archived copied.durable)

  -- the fronts as they were loaded after the words: the archived one is no further than the end, and neither a pin of the seat nor the cut of
  -- a shard in its hand is past it
  pub record TellsFronts (state_of : P → PartState) (f : Frame) (d now : SeatView P) (copied : Copied) : Type 0 where
    pub archived : now.core.archived ≡ copied.archived
    pub durable : now.core.durable ≡ copied.durable
    pub within : copied.archived ≤ copied.end
    pub pins : All (λ (x : PlacedPin). IsShardPlace f x.place → x.pin.front ≤ copied.archived) d.stake.pins
    pub cuts : All (λ (x : Note P). IsShardPlace f x.place → (state_of x.part).cut ≤ copied.archived) d.stake.notes

  -- all that had been seen is before the end, a number of 32 bits, and all up to the end is seen; from the lesser front on the buffer has the words
  -- of the entries
  pub record TellsWords (slots : ℕ) (d now : SeatView P) (copied : Copied) (buf : List ℕ) : Type 0 where
    pub seen_before : d.core.seen ≤ copied.end
    pub sees : copied.end ≤ now.core.seen
    pub small : copied.end < 2 ^ 32
    pub long : length now.told.seen ≡ now.core.seen
    pub words : (p : ℕ) → min copied.archived copied.durable ≤ p → p < copied.end → (IsCutOff copied copied.stop → ⊥) →
        IsWordOf slots d.about.vertices now.told.seen (record { at = p; word = slice_index buf (p % slots); sure = true })

  module _ {S : Type 0} where
    -- the length was loaded, and the archived front right after it
    pub record LoadsMark (state_of : P → PartState) (f : Frame) (words : ℕ) (me : Me S (SeatView P)) (archived : ℕ) (now : Me S (SeatView P)) : Type 0 where
      pub head : ℕ
      pub between : Me S (SeatView P)
      pub length_is : LoadsHead f (step words 0 0 0 none) me head between
      pub archived_is : LoadsArchived state_of f (step words 1 0 0 none) between archived now

    -- a copy begins by these two loads, one of the length again, and one of the durable front
    pub record FirstLoads (state_of : P → PartState) (f : Frame) (words : ℕ) (me : Me S (SeatView P)) (archived durable : ℕ) (now : Me S (SeatView P))
        : Type 0 where
      pub after_mark : Me S (SeatView P)
      pub again : ℕ
      pub after_again : Me S (SeatView P)
      pub mark : LoadsMark state_of f words me archived after_mark
      pub still : LoadsHead f (step words 0 0 0 none) after_mark again after_again
      pub durable_is : LoadsDurable f (step words 2 0 0 none) after_again durable now

    -- by which so much was released, and from where it went on
    pub record HasBegun (state_of : P → PartState) (f : Frame) (words : ℕ) (me now : Me S (SeatView P)) (released : ℕ) : Type 0 where
      pub archived : ℕ
      pub durable : ℕ
      pub begun : Me S (SeatView P)
      pub loads : FirstLoads state_of f words me archived durable begun
      pub lesser : released ≡ min archived durable
      pub on : GoesOn begun.0 now.0

    -- the ring's words were copied into a buffer of as many, and both fronts were loaded after them
    pub record Copies (state_of : P → PartState) (f : Frame) (words : ℕ) (me now : Me S (SeatView P)) (copied : Copied) (buf : List ℕ) : Type 0 where
      pub released : ℕ
      pub begins : HasBegun state_of f words me now released
      pub on : GoesOn me.0 now.0
      pub hand : now.1 ≡ me.1
      pub fronts : TellsFronts state_of f me.0 now.0 copied
      pub told : TellsWords f.slots me.0 now.0 copied buf
      pub stop : StopIs f.slots released me.0 now.0 copied copied.stop
