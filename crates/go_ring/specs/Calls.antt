-- What the calls of a ring do, in the words of its steps.
use Rattle.std.specs.Prelude.{◌≡◌, ℕ, ◌+◌, ◌<◌, ◌≤◌, min, List, [], ◌∷◌, Option as Maybe, Some, None}
use Rattle.atomic_table.specs.Table.{Me, step}
use mathlib.Core.Option.{none}
use Rattle.go_api.specs.declared.stop.Stop.{Stop}
use Rattle.go_api.specs.declared.stop.Stop.TheVariants.{Disk, Memory}
use Rattle.go_core.specs.declared.entry.Entry.{Entry}
use Rattle.go_core.specs.declared.part.PartState.{PartState}
use Rattle.go_core.specs.Frame.{Frame}
use Rattle.go_rule.specs.declared.view.SeatView.{SeatView}
use Rattle.go_rule.specs.Views.{with_stored}
use Rattle.go_rule.specs.Steps.{LoadsHead, LoadsArchived, LoadsDurable}
use Rattle.go_ring.specs.declared.room.Room.{Room}
use Rattle.go_ring.specs.declared.claim.Claim.{Claim}
use Rattle.go_ring.specs.declared.claim.Fill.{Fill}
use Rattle.go_ring.specs.declared.claim.Fill.TheVariants.{Done, Held}
use Rattle.go_ring.specs.Claims.{entries_in}
use Rattle.go_ring.specs.declared.room.Room.TheVariants.{Free, Full}

-- the number in the flag by which work is stopped
abbrev pub cause_of : Stop → ℕ
cause_of Disk = 1
cause_of Memory = 2

-- and what it is where none is raised
abbrev pub flag_of : Maybe Stop → ℕ
flag_of None = 0
flag_of (Some why) = cause_of why

module _ {P S : Type 0} where
  -- both fronts were loaded, the archived one first
  pub record LoadsFronts (state_of : P → PartState) (f : Frame) (slots : ℕ) (me : Me S (SeatView P)) (archived durable : ℕ) (now : Me S (SeatView P))
      : Type 0 where
    pub between : Me S (SeatView P)
    pub first : LoadsArchived state_of f (step slots 1 0 0 none) me archived between
    pub second : LoadsDurable f (step slots 2 0 0 none) between durable now

  -- the length was loaded, and both fronts after it
  pub record Looks (state_of : P → PartState) (f : Frame) (slots : ℕ) (me : Me S (SeatView P)) (head released : ℕ) (now : Me S (SeatView P)) : Type 0 where
    pub archived : ℕ
    pub durable : ℕ
    pub after : Me S (SeatView P)
    pub length_is : LoadsHead f (step slots 0 0 0 none) me head after
    pub fronts : LoadsFronts state_of f slots after archived durable now
    pub lesser : released ≡ min archived durable

-- the ring is full exactly where the length is a lap or more past what is released
abbrev pub RoomIs : ℕ → ℕ → ℕ → Room → Type 0
RoomIs slots head released Free = head < released + slots
RoomIs slots head released (Full h r) = (h ≡ head) × (r ≡ released) × (released + slots ≤ head)

module _ {P : Type 0} where
  -- what is done for one entry was done for each, one after another
  abbrev pub for_each : (Entry → SeatView P → SeatView P) → List Entry → SeatView P → SeatView P
  for_each step [] d = d
  for_each step (x ∷ xs) d = for_each step xs (step x d)

module _ {P S : Type 0} (state_of : P → PartState) (f : Frame) (slots : ℕ) (claim : Claim) (me : Me S (SeatView P)) where
  -- by loads of both fronts the claim's slots were free, and its words were stored
  pub record Fills (now : Me S (SeatView P)) : Type 0 where
    pub archived : ℕ
    pub durable : ℕ
    pub between : Me S (SeatView P)
    pub fronts : LoadsFronts state_of f slots me archived durable between
    pub free : claim.first + claim.len ≤ min archived durable + f.slots
    pub becomes : now ≡ (for_each with_stored (entries_in claim) between.0, between.1)

  -- by these loads its last one wasn't, up to what is released then
  pub record IsHeld (released : ℕ) (now : Me S (SeatView P)) : Type 0 where
    pub archived : ℕ
    pub durable : ℕ
    pub fronts : LoadsFronts state_of f slots me archived durable now
    pub lesser : released ≡ min archived durable
    pub taken : released + f.slots < claim.first + claim.len

  abbrev pub FillIs : Fill → Me S (SeatView P) → Type 0
  FillIs (Done position) now = (position ≡ claim.first) × Fills now
  FillIs (Held again released) now = (again ≡ claim) × IsHeld released now
