-- What the calls of a disk do to its bytes, and what a crash may leave of them between two syncs.
use Rattle.std.specs.Prelude.{◌≡◌, ◌⊎◌, ℕ, ◌+◌, ◌<◌, ◌≤◌, max, if◌then◌else◌, nat_lt, List, ◌∷◌, ◌++◌, length, take, drop, Option, None, Some, IsSomeAnd}
use Rattle.std.specs.Prelude.{Result, MatchResult}
use Rattle.go_text.specs.Causes.{raised}
use Rattle.go_disk.specs.Device.{Device}

-- these bytes in the place of those that stood there, and behind the end where they reach past it
abbrev pub overwritten : List ℕ → ℕ → List ℕ → List ℕ
overwritten old at bytes = take at old ++ (bytes ++ drop (at + length bytes) old)

-- new is old with these bytes at this place, which isn't behind the end
pub record Holds (at : ℕ) (bytes old new : List ℕ) : Type 0 where
  pub within : at ≤ length old
  pub written : new ≡ overwritten old at bytes

-- after a write of n bytes that may have been cut short: any bytes in the range and past the old end, the same elsewhere
pub record Torn (at n : ℕ) (old new : List ℕ) : Type 0 where
  pub before : take at new ≡ take at old
  pub after : drop (at + n) new ≡ drop (at + n) old
  pub no_shorter : length old ≤ length new
  pub no_longer : length new ≤ max (length old) (at + n)

-- out has the bytes from a place on, and none of them is past the end
pub record Shows (bytes : List ℕ) (at : ℕ) (out : List ℕ) : Type 0 where
  pub within : at + length out ≤ length bytes
  pub shown : out ≡ take (length out) (drop at bytes)

-- told stays told, and the step leads from what was told to what is; what isn't told goes on not being told
abbrev pub StaysTold : (List ℕ → List ℕ → Type 0) → Option (List ℕ) → Option (List ℕ) → Type 0
StaysTold step None after = after ≡ None
StaysTold step (Some old) None = ⊥
StaysTold step (Some old) (Some new) = step old new

-- a write of these bytes that succeeded holds them, and one that failed may have torn its range
abbrev pub Writes : {T E : Type 0} → ℕ → List ℕ → Result T E → Option (List ℕ) → Option (List ℕ) → Type 0
Writes at bytes result old new = MatchResult result (λ _. StaysTold (Holds at bytes) old new) (λ _. StaysTold (Torn at (length bytes)) old new)

-- each image after is an image before that took the step
abbrev pub Follows : (List ℕ → List ℕ → Type 0) → (List ℕ → Type 0) → (List ℕ → Type 0) → Type 0
Follows step old new = (image : List ℕ) → new image → (before : List ℕ) × old before × step before image

-- each image after was one before
abbrev pub NoNewImage : (List ℕ → Type 0) → (List ℕ → Type 0) → Type 0
NoNewImage old new = (image : List ℕ) → new image → old image

-- each image is what a read gives; a disk that tells nothing has no image
abbrev pub Only : Option (List ℕ) → (List ℕ → Type 0) → Type 0
Only contents images = (image : List ℕ) → images image → contents ≡ Some image

-- the count of blunders after a call that asks for the bytes up to an end: one more where the end isn't there
abbrev pub blundered : Option (List ℕ) → ℕ → ℕ → ℕ
blundered None end count = count
blundered (Some bytes) end count = if nat_lt (length bytes) end then raised count else count

-- the noted syncs after one at this moment
abbrev pub noted_at : Option (List ℕ) → ℕ → List ℕ → List ℕ
noted_at None moment syncs = syncs
noted_at (Some bytes) moment syncs = moment ∷ syncs

-- time goes on: the images since a moment are those that there were, and those of now
pub record Elapses {D : Type 0} (device : Device D) (old new : D) : Type 0 where
  pub later : device.clock old ≤ device.clock new
  pub nothing_else : (t : ℕ) (image : List ℕ) → t ≤ device.clock old → device.since new t image → device.since old t image ⊎ device.images new image
  pub keeps : (t : ℕ) (image : List ℕ) → t ≤ device.clock old → device.since old t image → device.since new t image

-- after a call that only looked: the contents and the base are the same, no image is new, and no sync is noted
pub record Looks {D : Type 0} (device : Device D) (old new : D) : Type 0 where
  pub contents : device.contents new ≡ device.contents old
  pub base : device.base new ≡ device.base old
  pub images : NoNewImage (device.images old) (device.images new)
  pub syncs : device.syncs new ≡ device.syncs old

-- after a write of n bytes at a place, one that failed too: the base is the same, each image is one from before that was torn in the
-- range, and no sync is noted
pub record Tears {D : Type 0} (device : Device D) (at n : ℕ) (old new : D) : Type 0 where
  pub base : device.base new ≡ device.base old
  pub images : Follows (Torn at n) (device.images old) (device.images new)
  pub syncs : device.syncs new ≡ device.syncs old

-- a place is behind the end
abbrev pub IsBehind : ℕ → Option (List ℕ) → Type 0
IsBehind at contents = IsSomeAnd contents (λ bytes. length bytes < at)

-- after a write that began behind the end nothing was touched
abbrev pub Untouched : {D : Type 0} → Device D → ℕ → D → D → Type 0
Untouched device at old new = IsBehind at (device.contents old) → (device.contents new ≡ device.contents old) × NoNewImage (device.images old)
    (device.images new)

-- after a sync that succeeded: the contents are the same, they are the base and the one image, and the moment is noted
pub record IsSynced {D : Type 0} (device : Device D) (old new : D) : Type 0 where
  pub contents : device.contents new ≡ device.contents old
  pub base : device.base new ≡ device.contents new
  pub only : Only (device.contents new) (device.images new)
  pub images : NoNewImage (device.images old) (device.images new)
  pub syncs : device.syncs new ≡ noted_at (device.contents new) (device.clock new) (device.syncs old)
