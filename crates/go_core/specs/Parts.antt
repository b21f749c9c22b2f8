-- The clauses on the parts: the shards and the file that hold what the workers took, their turns and their pins.
use Rattle.std.specs.Prelude.{◌≡◌, ◌⊎◌, ℕ, ◌+◌, ◌<◌, ◌≤◌, max, Bool, true, false, if◌then◌else◌, List, [], ◌++◌, length, All, Contains, count_by, find}
use Rattle.std.specs.Prelude.{Option, Some, None, slice_get}
use Rattle.std.proofs.Common.{arith, length-append}
use mathlib.Core.Option.{some}
use lib.ListN.{get_elem?}
use Rattle.go_word.specs.declared.edge.Edge.{Edge}
use Rattle.go_word.specs.declared.pin.Pin.{Pin}
use Rattle.go_core.specs.declared.part.PartState.{PartState}
use Rattle.go_core.specs.declared.view.View.{View}
use Rattle.go_core.specs.Frame.{Frame, archived_in, durable_in}
use Rattle.go_word.specs.Pins.{is_named}
use Rattle.go_core.specs.Pins.{owns_name}
use Rattle.go_core.specs.Rule.{IsWritten}

-- the moment of a disk, the count of its faults, and whether it tells what it holds
pub record Mark : Type 0 where
  pub clock : ℕ
  pub faults : ℕ
  pub tells : Bool

-- what has no disk has no moment and no faults, and tells nothing
abbrev pub no_mark : Mark
no_mark = record { clock = 0; faults = 0; tells = false }

-- a part of which no more is known than its state reaches no further than the log
abbrev pub Reaches : PartState → List Edge → Type 0
Reaches s log = s.front ≤ length log

-- and so no further than a longer one
pub reaches_on : (s : PartState) (log more : List Edge) → Reaches s log → Reaches s (log ++ more)
reaches_on s log more reaches = omega (arith, length-append log more)

-- the place of the file: there is a turn for each part after the four shared words, and the file's is the last
abbrev pub IsFilePlace : Frame → ℕ → Type 0
IsFilePlace f place = place + 5 ≡ f.base

-- the places before it are those of shards
abbrev pub IsShardPlace : Frame → ℕ → Type 0
IsShardPlace f place = place + 5 < f.base

-- each name of a list of pins stands once in it
abbrev pub AreNamed : List Pin → Type 0
AreNamed pins = All (λ pin. count_by (is_named pin.id) pins ≡ 1) pins

-- a shard is archived as far as the archived front says, its cut is no further than that and than each pin, no pin is past that front, and
-- no two have one name
pub record IsShardOf (archived : ℕ) (s : PartState) : Type 0 where
  pub archived_to : archived ≤ s.front
  pub cut_to : s.cut ≤ archived
  pub cut_pins : All (λ pin. s.cut ≤ pin.front) s.pins
  pub pins_to : All (λ pin. pin.front ≤ archived) s.pins
  pub names : AreNamed s.pins

-- how far a party may bring a shard on: as far as it took, where it moves the archived front
abbrev pub reach_of : View → ℕ
reach_of v = if v.archives then v.taken else 0

-- a front is no further than what the party took that moves the archived front
abbrev pub IsReached : List View → ℕ → Type 0
IsReached views front = (i : ℕ) (v : View) → get_elem? views i ≡ some v → v.archives ≡ true → front ≤ v.taken

-- by what a part means: its state, and that it stands for the log up to its front
module _ {P : Type 0} (state_of : P → PartState) (StandsFor : P → List Edge → Type 0) where
  -- a part stands for the log up to its front, all of it written
  pub record IsPartOf (log : List Edge) (views : List View) (part : P) : Type 0 where
    pub stands : StandsFor part log
    pub written : (p : ℕ) → p < (state_of part).front → IsWritten log views p

  -- what the rule says of the parts, a list by place; a part that is out is spoken of as it was taken
  pub record ArePartsOf (f : Frame) (log : List Edge) (words : List ℕ) (views : List View) (parts : List P) : Type 0 where
    pub of_log : (place : ℕ) (part : P) → slice_get parts place ≡ Some part → IsPartOf log views part
    pub shards : (place : ℕ) (part : P) → slice_get parts place ≡ Some part → IsShardPlace f place → IsShardOf (archived_in words) (state_of part)
    pub reached : (place : ℕ) (part : P) → slice_get parts place ≡ Some part → IsShardPlace f place → IsReached views (state_of part).front
    pub file : (place : ℕ) (part : P) → slice_get parts place ≡ Some part → IsFilePlace f place → durable_in words ≤ (state_of part).front

-- a pin of a shard that is given back, by the shard's cut, the archived front that the party knows, whether the name is the party's, and what
-- stood under the name: a new one stands at the cut, the party's own may go upwards as far as that front, and another's stays
abbrev pub Follows : ℕ → ℕ → Bool → Option Pin → Pin → Type 0
Follows cut archived own None pin = pin.front ≡ cut
Follows cut archived own (Some old) pin = (pin.front ≡ old.front) ⊎ ((own ≡ true) × (old.front ≤ pin.front) × (pin.front ≤ archived))

-- what a party may tell of a shard in its hand, by an archived front that it knows: it reaches there, its cut is at or below each pin, and
-- no two pins have one name
pub record IsInHand (known : ℕ) (s : PartState) : Type 0 where
  pub front_from : known ≤ s.front
  pub cut_pins : All (λ pin. s.cut ≤ pin.front) s.pins
  pub names : AreNamed s.pins

-- a shard goes onward: its front at most to where the party may bring it, its cut at most to the archived front that the party knows
pub record GoesOnward (reach archived : ℕ) (old new : PartState) : Type 0 where
  pub front_from : old.front ≤ new.front
  pub front_to : new.front ≤ max old.front reach
  pub cut_from : old.cut ≤ new.cut
  pub cut_to : new.cut ≤ max old.cut archived

-- its pins stand as they may: none below the cut, one of a name, those of other parties as they were
pub record KeepsPins (archived : ℕ) (own : ℕ → Bool) (old new : PartState) : Type 0 where
  pub cut_pins : All (λ pin. new.cut ≤ pin.front) new.pins
  pub names : AreNamed new.pins
  pub others : All (λ pin. own pin.id ≡ false → find (is_named pin.id) new.pins ≡ Some pin) old.pins
  pub pins : All (λ pin. Follows old.cut archived (own pin.id) (find (is_named pin.id) old.pins) pin) new.pins

-- a shard may be given back as another, by a party that may bring it so far, knows the archived front, and owns some names of pins
pub record IsSuccessor (reach archived : ℕ) (own : ℕ → Bool) (old new : PartState) : Type 0 where
  pub onward : GoesOnward reach archived old new
  pub keeps : KeepsPins archived own old new

-- the file may be given back as another, by a party that took so much
pub record IsFileSuccessor (taken : ℕ) (old new : PartState) : Type 0 where
  pub front_from : old.front ≤ new.front
  pub front_to : new.front ≤ max old.front taken
  pub cut : new.cut ≡ old.cut
  pub pins : new.pins ≡ old.pins

-- by what a party means: whether it has a turn
module _ {S : Type 0} (has : S → Bool) where
  -- a turn word counts the parties that have the turn: none, or one
  pub record IsTurn (turn : ℕ) (parties : List S) : Type 0 where
    pub counts : count_by has parties ≡ turn
    pub one : turn ≤ 1

-- by its pins, and those that it put in since it took the shard's turn
module _ {S : Type 0} (pins put : S → List Pin) where
  -- a shard has each pin that a party holds, but of the one that has its turn
  pub record IsPinnedBy (has : S → Bool) (held : List Pin) (s : S) : Type 0 where
    pub pinned : has s ≡ false → All (Contains held) (pins s)
    pub none_put : has s ≡ false → put s ≡ []

  -- and no name is that of two parties
  pub record ArePinned (has : S → Bool) (held : List Pin) (parties : List S) : Type 0 where
    pub each : All (IsPinnedBy has held) parties
    pub apart : (id : ℕ) → count_by (λ s. owns_name id (pins s) (put s)) parties ≤ 1
