-- What becomes of a seat's pins in one shard whose turn it takes, and of that shard's.
use Rattle.std.specs.Prelude.{◌≡◌, ◌↔◌, ℕ, ◌<◌, ◌≤◌, ◌==◌, true, false, List, [], ◌∷◌, ◌++◌, map, filter, length, not, All, Contains, get_or}
use Rattle.std.specs.Prelude.{if◌then◌else◌}
use Rattle.atomic_table.specs.Table.{Me}
use Rattle.go_word.specs.declared.pin.Pin.{Pin}
use Rattle.go_word.specs.Pins.{is_named, has_name}
use Rattle.go_core.specs.Frame.{Frame}
use Rattle.go_core.specs.Parts.{IsShardPlace}
use Rattle.go_core.specs.View.{unmoved}
use Rattle.go_shard.specs.ShardState.{ShardState, Keeps}
use Rattle.go_rule.specs.declared.view.SeatView.{SeatView}
use Rattle.go_rule.specs.Rule.{pins_at}
use Rattle.go_views.specs.Pins.{HasGained, HasMovedOn}

-- the same pins
abbrev pub AreSame : List Pin → List Pin → Type 0
AreSame old new = (x : Pin) → Contains new x ↔ Contains old x

-- there is one pin more of a name that none had, at whichever front
abbrev pub HasNewName : ℕ → List Pin → List Pin → Type 0
HasNewName id old new = (front : ℕ) × HasGained (record { id = id; front = front }) old new

-- the pins of a shard with one more at a front, of a name that none had
pub record IsAdded (id front : ℕ) (old new : List Pin) : Type 0 where
  pub fresh : has_name id old ≡ false
  pub is : new ≡ old ++ record { id = id; front = front } ∷ []

-- the pins of a shard, where that of a name stands at a front
abbrev pub shifted : ℕ → ℕ → List Pin → List Pin
shifted id front pins = map (λ pin. if is_named id pin then record { id = pin.id; front = front } else pin) pins

-- the pins of a shard without that of a name
abbrev pub without : ℕ → List Pin → List Pin
without id pins = filter (λ pin. not (is_named id pin)) pins

-- the pin of a name may go up to a front that a shard keeps
pub record CanShift (id front : ℕ) (shard : ShardState) : Type 0 where
  pub named : has_name id shard.pins ≡ true
  pub upwards : All (λ pin. is_named id pin ≡ true → pin.front ≤ front) shard.pins
  pub kept : Keeps shard front
  pub uncut : shard.cut ≤ front

module _ {P : Type 0} where
  -- a seat has a pin of each of these names, by place
  abbrev pub HasNames : List ℕ → SeatView P → Type 0
  HasNames names d = (place : ℕ) → place < length names → has_name (get_or names place 0) (pins_at place d) ≡ true

  -- its pins in shards are at most at a front
  abbrev pub ArePinsTo : Frame → ℕ → SeatView P → Type 0
  ArePinsTo f front d = (place : ℕ) → IsShardPlace f place → (pin : Pin) → Contains (pins_at place d) pin → pin.front ≤ front

  -- it moved on by a turn of one shard: of its pins there became what this says, and elsewhere it has the ones that it had; of the log it knows what it
  -- knew, and in its hand it has what it had
  pub record HasServedAt {S : Type 0} (place : ℕ) (Becomes : List Pin → List Pin → Type 0) (me now : Me S (SeatView P)) : Type 0 where
    pub moved : HasMovedOn me.0 now.0
    pub here : Becomes (pins_at place me.0) (pins_at place now.0)
    pub elsewhere : (other : ℕ) → (other == place) ≡ false → pins_at other now.0 ≡ pins_at other me.0
    pub core : unmoved now.0.core ≡ unmoved me.0.core
    pub told : now.0.told ≡ me.0.told
    pub hand : now.1 ≡ me.1
