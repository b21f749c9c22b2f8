-- What a seat is told of a part whose turn it takes, and as what it may give the part back.
use Rattle.std.specs.Prelude.{◌≡◌, ◌⊎◌, ℕ, ◌+◌, ◌≤◌, ◌==◌, Bool, true, false, not, List, [], ◌∷◌, ◌++◌, map, filter, length, All, Contains}
use Rattle.std.specs.Prelude.{find, is_some, Option as Maybe, Some}
use Rattle.atomic_table.specs.Table.{Step, Me, rest}
use Rattle.go_text.specs.Causes.{Rose}
use Rattle.go_word.specs.declared.edge.Edge.{Edge}
use Rattle.go_word.specs.declared.pin.Pin.{Pin}
use Rattle.go_core.specs.declared.part.PartState.{PartState}
use Rattle.go_core.specs.Frame.{Frame}
use Rattle.go_core.specs.View.{unmoved}
use Rattle.go_core.specs.Pins.{owns_name, is_own_or_new}
use Rattle.go_core.specs.Parts.{Mark, IsShardPlace, IsFilePlace, IsInHand, IsSuccessor, IsFileSuccessor, reach_of}
use Rattle.go_rule.specs.declared.view.About.{About}
use Rattle.go_rule.specs.declared.view.Note.{Note}
use Rattle.go_rule.specs.declared.view.PlacedPin.{PlacedPin}
use Rattle.go_rule.specs.declared.view.Stand.{Stand}
use Rattle.go_rule.specs.declared.view.SeatView.{SeatView}
use Rattle.go_rule.specs.Meaning.{Meaning}
use Rattle.go_rule.specs.Views.{with_unmoved}
use Rattle.go_rule.specs.Rule.{IsBelow, Begins, has_note, pins_at}
use Rattle.go_rule.specs.Steps.{Becomes}

-- the mark of the file's disk as the ring was made, as each seat knows it
abbrev pub mark_in : About → Mark
mark_in about = record { clock = about.clock; faults = about.faults; tells = about.tells }

-- the placed pins, where those of a place are these
abbrev pub with_pins : ℕ → List Pin → List PlacedPin → List PlacedPin
with_pins place pins xs = filter (λ (x : PlacedPin). not (x.place == place)) xs ++ map (λ (pin : Pin). record { place = place; pin = pin }) pins

module _ {P : Type 0} where
  -- a seat's own names of pins in the shard of a place
  abbrev pub owns_at : ℕ → SeatView P → ℕ → Bool
  owns_at place d id = owns_name id (pins_at place d) []

  -- which pins of a shard that goes from the one list of pins to the other are the seat's: it owned the name, or nobody did
  abbrev pub own_pins : ℕ → SeatView P → List Pin → List Pin → List Pin
  own_pins place d old new = filter (is_own_or_new (pins_at place d) [] old) new

  -- after a turn was taken, with the part of its place
  abbrev pub taking : ℕ → P → SeatView P → SeatView P
  taking place part d = record d {
    core = unmoved d.core;
    stake = record d.stake { notes = record { place = place; part = part } ∷ d.stake.notes };
  }

  -- after the part was given back that was noted last, and which stands otherwise now: its front is known, and its pins that are the seat's
  abbrev pub giving : Note P → List (Note P) → PartState → PartState → SeatView P → SeatView P
  giving note older old new d = record d {
    core = unmoved d.core;
    stake = record {
      notes = older;
      pins = with_pins note.place (own_pins note.place d old.pins new.pins) d.stake.pins;
      stood = record { place = note.place; front = new.front } ∷ d.stake.stood;
    };
  }

  module _ (m : Meaning P) where
    -- what a seat knows of a place it knows of the part: it reached each front, and a shard that isn't cut off there tells of it
    pub record IsStand (f : Frame) (place : ℕ) (part : P) (x : Stand) : Type 0 where
      pub reached : x.place ≡ place → x.front ≤ (m.state_of part).front
      pub kept : x.place ≡ place → IsShardPlace f place → (m.state_of part).cut ≤ x.front → m.keeps part x.front

    -- a shard that a seat took: it reaches the archived front that the seat knows, tells of that one and of its own, is no further than an archiver
    -- took, and has each pin of the seat
    pub record IsTakenShard (d : SeatView P) (place : ℕ) (part : P) : Type 0 where
      pub in_hand : IsInHand d.core.archived (m.state_of part)
      pub own : m.keeps part (m.state_of part).front
      pub kept : (m.state_of part).cut ≤ d.core.archived → m.keeps part d.core.archived
      pub reached : d.core.archives ≡ true → (m.state_of part).front ≤ d.core.taken
      pub pins : All (Contains (m.state_of part).pins) (pins_at place d)

    -- the file that a seat took, over a log: it reaches the durable front that the seat knows, its clock and its faults didn't fall since the ring was
    -- made, where its disk failed its faults rose, and its disk recovers to a beginning of the log
    pub record IsTakenFile (d : SeatView P) (log : List Edge) (part : P) : Type 0 where
      pub front_from : d.core.durable ≤ (m.state_of part).front
      pub clock : d.about.clock ≤ (m.mark_of part).clock
      pub faults : d.about.faults ≤ (m.mark_of part).faults
      pub spent : m.is_spent part → Rose d.about.faults (m.mark_of part).faults
      pub recovers : m.recovers part log d.about.vertices d.about.first (mark_in d.about)

    -- a part that a seat took stands for a log, within that, which begins with all that the seat has seen
    pub record IsTakenOver (log : List Edge) (d : SeatView P) (part : P) : Type 0 where
      pub seen : Begins log d.told.seen
      pub below : All (IsBelow d.about.vertices) log
      pub within : (m.state_of part).front ≤ length log
      pub stands : m.stands_for part d.about.first log

    -- there is such a log, and the part fits its place
    pub record IsTaken (f : Frame) (d : SeatView P) (place : ℕ) (part : P) : Type 0 where
      pub log : List Edge
      pub over : IsTakenOver log d part
      pub fits : m.fits part place d.about.shards d.about.vertices
      pub stood : All (IsStand f place part) d.stake.stood
      pub shard : IsShardPlace f place → IsTakenShard d place part
      pub file : IsFilePlace f place → IsTakenFile d log part

    -- the turn is the seat's, which had no part of that place in its hand and has this one
    pub record TakesPart (f : Frame) (place : ℕ) (me : Me (Maybe P) (SeatView P)) (now : Me (Maybe P) (SeatView P)) : Type 0 where
      pub part : P
      pub becomes : now ≡ (taking place part me.0, (place, Some part) ∷ me.1)
      pub free : has_note place me.0 ≡ false
      pub about : (me.0.about.shards + 5 ≡ f.base) × (me.0.about.first ≡ f.first)
      pub taken : IsTaken f me.0 place part

    -- the turn word was 0 and the seat has the turn with its part, or it was 1 and the seat was told nothing
    abbrev pub TakesTurn : Frame → ℕ → Step (Maybe P) → Me (Maybe P) (SeatView P) → ℕ → Me (Maybe P) (SeatView P) → Type 0
    TakesTurn f place step me n now = ((n ≡ 0) × TakesPart f place me now) ⊎ ((n ≡ 1) × Becomes (with_unmoved me.0) me now)

    -- a shard may be given back as another: a lawful successor, which tells of its own front and of each that it told of and doesn't cut off
    pub record CanGiveShard (d : SeatView P) (place : ℕ) (old new : P) : Type 0 where
      pub successor : IsSuccessor (reach_of d.core) d.core.archived (owns_at place d) (m.state_of old) (m.state_of new)
      pub own : m.keeps new (m.state_of new).front
      pub kept : (front : ℕ) → (m.state_of new).cut ≤ front → m.keeps old front → m.keeps new front

    -- the file may be: a lawful successor whose clock and faults don't fall; where its disk failed, its faults rose since the ring was made and the seat
    -- saw the flag raised; and over a log that begins with what the seat has seen, its disk recovers as it did
    pub record CanGiveFile (d : SeatView P) (old new : P) : Type 0 where
      pub successor : IsFileSuccessor d.core.taken (m.state_of old) (m.state_of new)
      pub clock : (m.mark_of old).clock ≤ (m.mark_of new).clock
      pub faults : (m.mark_of old).faults ≤ (m.mark_of new).faults
      pub spent : m.is_spent new → Rose d.about.faults (m.mark_of new).faults × (d.told.flagged ≡ true)
      pub recovers : (log : List Edge) → Begins log d.told.seen → m.recovers old log d.about.vertices d.about.first (mark_in d.about)
          → m.recovers new log d.about.vertices d.about.first (mark_in d.about)

    -- a part may be given back as another that fits its place, and stands for each log that the old one stood for and that begins with what the seat
    -- has seen
    pub record CanGive (f : Frame) (d : SeatView P) (place : ℕ) (old new : P) : Type 0 where
      pub fits : m.fits new place d.about.shards d.about.vertices
      pub stands : (log : List Edge) → Begins log d.told.seen → m.stands_for old d.about.first log → m.stands_for new d.about.first log
      pub shard : IsShardPlace f place → CanGiveShard d place old new
      pub file : IsFilePlace f place → CanGiveFile d old new

    -- the part of a place is the one that the seat took last, as which it noted the one and has in its slot the other now
    pub record IsInSlot (place : ℕ) (me : Me (Maybe P) (SeatView P)) (old new : P) (older : List (Note P)) : Type 0 where
      pub noted : me.0.stake.notes ≡ record { place = place; part = old } ∷ older
      pub once : is_some (find (λ (n : Note P). n.place == place) older) ≡ false
      pub slot : me.1 ≡ (place, Some new) ∷ rest me.1

    -- there are such parts, and the one may be given back as the other
    pub record HasPart (f : Frame) (place : ℕ) (me : Me (Maybe P) (SeatView P)) : Type 0 where
      pub old : P
      pub new : P
      pub older : List (Note P)
      pub is : IsInSlot place me old new older
      pub can : CanGive f me.0 place old new

    -- the turn is free, and the part's new front is known and its pins that are the seat's
    pub record GivesPart (place : ℕ) (me : Me (Maybe P) (SeatView P)) (now : Me (Maybe P) (SeatView P)) : Type 0 where
      pub old : P
      pub new : P
      pub older : List (Note P)
      pub is : IsInSlot place me old new older
      pub becomes : now ≡ (giving (record { place = place; part = old }) older (m.state_of old) (m.state_of new) me.0, rest me.1)

    -- whichever turn word that is
    abbrev pub GivesTurn : ℕ → Step (Maybe P) → Me (Maybe P) (SeatView P) → ℕ → Me (Maybe P) (SeatView P) → Type 0
    GivesTurn place step me n now = GivesPart place me now
