-- What becomes of a seat's pins in the shards whose turns it takes.
use Rattle.std.specs.Prelude.{◌≡◌, ◌↔◌, ◌⊎◌, ℕ, ◌<◌, ◌≤◌, false, List, Contains, get_or}
use Rattle.go_word.specs.declared.pin.Pin.{Pin}
use Rattle.go_word.specs.Pins.{is_named, has_name}
use Rattle.go_core.specs.Frame.{Frame}
use Rattle.go_core.specs.Parts.{IsShardPlace}
use Rattle.go_core.specs.View.{unmoved}
use Rattle.go_rule.specs.declared.view.SeatView.{SeatView}
use Rattle.go_rule.specs.Rule.{pins_at}
use Rattle.go_turns.specs.Going.{but_known, KnowsMore}

-- one pin more, of a name that none had
pub record HasGained (pin : Pin) (old new : List Pin) : Type 0 where
  pub fresh : has_name pin.id old ≡ false
  pub are : (x : Pin) → Contains new x ↔ (Contains old x ⊎ (x ≡ pin))

-- the pin of this name stands here, and each other one where it stood
abbrev pub HasShifted : Pin → List Pin → List Pin → Type 0
HasShifted pin old new = (x : Pin) → Contains new x ↔ ((Contains old x × (is_named pin.id x ≡ false)) ⊎ (x ≡ pin))

-- the pins of this name are gone, and each other one stands where it stood
abbrev pub HasLost : ℕ → List Pin → List Pin → Type 0
HasLost id old new = (x : Pin) → Contains new x ↔ (Contains old x × (is_named id x ≡ false))

-- the pin at a front in the shard of a place, of the names by place
abbrev pub pin_of : List ℕ → ℕ → ℕ → Pin
pin_of names front place = record { id = get_or names place 0; front = front }

module _ {P : Type 0} where
  -- a seat knows no less; the parts in its hand, its shares, its entries and the causes that it raised are as they were
  pub record HasMovedOn (d e : SeatView P) : Type 0 where
    pub knows : KnowsMore d e
    pub rest : but_known e ≡ but_known d

  -- it moved on by turns of the first shards, so many: of its pins in each of them became what this says, and elsewhere it has the ones that it had
  pub record HasTurnedEach (f : Frame) (upto : ℕ) (Becomes : ℕ → List Pin → List Pin → Type 0) (d e : SeatView P) : Type 0 where
    pub moved : HasMovedOn d e
    pub each : (place : ℕ) → place < upto → Becomes place (pins_at place d) (pins_at place e)
    pub others : (place : ℕ) → IsShardPlace f place → upto ≤ place → (pin : Pin) → Contains (pins_at place e) pin ↔ Contains (pins_at place d) pin

  -- and knows of the log what it knew
  pub record HasServedEach (f : Frame) (upto : ℕ) (Becomes : ℕ → List Pin → List Pin → Type 0) (d e : SeatView P) : Type 0 where
    pub turned : HasTurnedEach f upto Becomes d e
    pub core : unmoved e.core ≡ unmoved d.core
    pub told : e.told ≡ d.told

  -- it has one pin more in each of them, of these names, at whichever front
  abbrev pub HasPinnedEach : Frame → ℕ → List ℕ → SeatView P → SeatView P → Type 0
  HasPinnedEach f upto names d e = HasServedEach f upto (λ place old new. (front : ℕ) × HasGained (pin_of names front place) old new) d e

  -- its pins of these names stand at one front
  abbrev pub HasSettledEach : Frame → ℕ → List ℕ → ℕ → SeatView P → SeatView P → Type 0
  HasSettledEach f upto names front d e = HasServedEach f upto (λ place. HasShifted (pin_of names front place)) d e

  -- its pins of these names are gone
  abbrev pub HasUnpinnedEach : Frame → ℕ → List ℕ → SeatView P → SeatView P → Type 0
  HasUnpinnedEach f upto names d e = HasServedEach f upto (λ place. HasLost (get_or names place 0)) d e
