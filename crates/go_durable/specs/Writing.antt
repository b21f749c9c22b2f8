-- What writing behind a closed gate, and then opening it, leaves on the disk.
use Rattle.std.specs.Prelude.{◌⊎◌, ℕ, ◌≤◌, max, List, ◌++◌, ◌∷◌, length, Option, None, Some, IfSome, IsSomeAnd}
use Rattle.go_disk.specs.Device.{Device}
use Rattle.go_disk.specs.Disk.{Torn, Holds, StaysTold}
use Rattle.go_blocks.specs.declared.layout.TheConstants.{OPEN}
use Rattle.go_blocks.specs.File.{IsOpen, IsClosedBy}
use Rattle.go_durable.specs.Standing.{IsQuiet, IsShut}

-- a place isn't behind the end, where the disk tells
abbrev pub IsThere : Option (List ℕ) → ℕ → Type 0
IsThere contents at = IfSome contents (λ bytes. at ≤ length bytes)

-- what a read gave, after a write that may have been cut short
abbrev pub IsTornOf : Option (List ℕ) → ℕ → ℕ → List ℕ → Type 0
IsTornOf contents at n image = IsSomeAnd contents (λ bytes. Torn at n bytes image)

-- a disk that tells still tells, and one that doesn't still doesn't
abbrev pub TellsOn : {D : Type 0} → Device D → D → D → Type 0
TellsOn device old new = StaysTold (λ a b. Unit {0}) (device.contents old) (device.contents new)

-- these bytes were written, and nothing is pending
pub record IsWritten {D : Type 0} (device : Device D) (at : ℕ) (bytes : List ℕ) (old new : D) : Type 0 where
  pub quiet : IsQuiet device new
  pub holds : StaysTold (Holds at bytes) (device.contents old) (device.contents new)

-- the gate is still closed, and the file is no longer than it was, or than up to this place
pub record IsStillShut (len end : ℕ) (front image : List ℕ) : Type 0 where
  pub closed : IsClosedBy front image
  pub fits : length image ≤ max len end

-- the gate is open, whichever byte it is, and its body is whole
pub record IsOpenWithBody (front inner image : List ℕ) : Type 0 where
  pub gate : ℕ
  pub is_open : IsOpen gate
  pub closed : IsClosedBy (front ++ gate ∷ inner) image

-- a gate that is closed, or open in front of its whole body; a disk that tells nothing has no image
abbrev pub IsShutOrOpened : Option (List ℕ) → ℕ → List ℕ → List ℕ → List ℕ → Type 0
IsShutOrOpened None end front inner image = ⊥
IsShutOrOpened (Some bytes) end front inner image = IsStillShut (length bytes) end front image ⊎ IsOpenWithBody front inner image

-- the gate was opened in front of its body, and nothing is pending
pub record IsOpenedOn {D : Type 0} (device : Device D) (front inner : List ℕ) (old new : D) : Type 0 where
  pub shut : IsShut device (front ++ OPEN ∷ inner) new
  pub told : TellsOn device old new

-- what can't be lost is told where the disk told, and closed by this front
abbrev pub StaysShut : Option (List ℕ) → Option (List ℕ) → List ℕ → Type 0
StaysShut contents base front = StaysTold (λ a b. IsClosedBy front b) contents base
