-- What a crash may have left at the moments between two states of a disk.
use Rattle.std.specs.Prelude.{◌≡◌, ◌⊎◌, ℕ, ◌≤◌, List, ◌∷◌, ◌++◌, IfSome}
use Rattle.go_disk.specs.Device.{Device}

-- what was noted stays noted, behind what is newer
pub record HasNewer (old new : List ℕ) : Type 0 where
  pub newer : List ℕ
  pub parts : new ≡ newer ++ old

-- this moment is the first that was noted after the old ones
pub record IsFirstNewer (moment : ℕ) (old new : List ℕ) : Type 0 where
  pub newer : List ℕ
  pub parts : new ≡ newer ++ moment ∷ old

-- calls lead from the old state to the new one: time goes on, what earlier moments might have left and the noted syncs stay what they
-- were, and no range was asked for that isn't there
pub record Passes {D : Type 0} (device : Device D) (old new : D) : Type 0 where
  pub later : device.clock old ≤ device.clock new
  pub keeps : (t : ℕ) (image : List ℕ) → t ≤ device.clock old → device.since old t image → device.since new t image
  pub syncs : HasNewer (device.syncs old) (device.syncs new)
  pub blunders : device.blunders new ≡ device.blunders old

-- each image of a moment from the old state to the new one has this; those of earlier moments stay what they were
pub record LeavesOnly {D : Type 0} (device : Device D) (old new : D) (P : List ℕ → Type 0) : Type 0 where
  pub passes : Passes device old new
  pub each : (image : List ℕ) → device.since new (device.clock old) image → P image
  pub nothing_else : (t : ℕ) (image : List ℕ) → t ≤ device.clock old → device.since new t image
      → device.since old t image ⊎ device.since new (device.clock old) image
  pub earlier : (t : ℕ) (image : List ℕ) → t ≤ device.clock old → device.since new (device.clock old) image → device.since new t image

-- up to the first sync that succeeded between the two states, whose moment is noted where the disk tells, the images are those of the
-- old one, and each image from that moment on has this
pub record SettlesTo {D : Type 0} (device : Device D) (old new : D) (P : List ℕ → Type 0) : Type 0 where
  pub passes : Passes device old new
  pub moment : ℕ
  pub first : IfSome (device.contents old) (λ bytes. IsFirstNewer moment (device.syncs old) (device.syncs new))
  pub begins : device.clock old ≤ moment
  pub ends : moment ≤ device.clock new
  pub each : (image : List ℕ) → device.since new moment image → P image
  pub nothing_else : (t : ℕ) (image : List ℕ) → t ≤ device.clock old → device.since new t image → device.since old t image ⊎ device.since new moment image
  pub earlier : (t : ℕ) (image : List ℕ) → t ≤ moment → device.since new moment image → device.since new t image
