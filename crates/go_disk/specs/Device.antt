-- A disk as contracts see it: what it tells of its bytes, of what a crash may leave of them, and of its calls.
use Rattle.std.specs.Prelude.{◌≡◌, ℕ, ◌≤◌, List, [], Option, None, Some, refl}
use Rattle.std.proofs.lemmas.Option.{none-some}

-- what a disk tells, by its state. A disk that tells nothing has no contents, no base and no image, so a claim on all images holds of it.
-- contents: what a read gives now, where the disk tells
-- base: what a read gave at the last sync that succeeded, where the disk tells and there was one
-- images: what a crash now may leave
-- clock: the moment, a number that never falls
-- since: what a crash at some moment from this one on might have left
-- faults: how often the disk has failed, a number that never falls
-- syncs: the moments of the syncs that succeeded, the newest first, where the disk tells
-- blunders: how often a range was asked for that isn't there, where the disk tells
pub record Device (D : Type 0) : Type 1 where
  pub contents : D → Option (List ℕ)
  pub base : D → Option (List ℕ)
  pub images : D → List ℕ → Type 0
  pub clock : D → ℕ
  pub since : D → ℕ → List ℕ → Type 0
  pub faults : D → ℕ
  pub syncs : D → List ℕ
  pub blunders : D → ℕ

-- the laws that tie what a disk tells. A crash may leave all that was written, and it may lose all that was written since the base;
-- a disk that tells nothing has no base and no image; this moment is one of those since an earlier one, and since this moment there is
-- no other.
pub record IsDevice {D : Type 0} (device : Device D) : Type 0 where
  pub contents_is_image : (disk : D) (bytes : List ℕ) → device.contents disk ≡ Some bytes → device.images disk bytes
  pub base_is_image : (disk : D) (bytes : List ℕ) → device.base disk ≡ Some bytes → device.images disk bytes
  pub untold : (disk : D) → device.contents disk ≡ None → (device.base disk ≡ None) × ((image : List ℕ) → device.images disk image → ⊥)
  pub counts_now : (disk : D) (t : ℕ) (image : List ℕ) → t ≤ device.clock disk → device.images disk image → device.since disk t image
  pub only_now : (disk : D) (image : List ℕ) → device.since disk (device.clock disk) image → device.images disk image

-- a disk that tells nothing but how often it failed
abbrev pub silent : {D : Type 0} → (D → ℕ) → Device D
silent faults = record {
  contents = λ disk. None;
  base = λ disk. None;
  images = λ disk image. ⊥;
  clock = λ disk. 0;
  since = λ disk t image. ⊥;
  faults = faults;
  syncs = λ disk. [];
  blunders = λ disk. 0;
}

-- it keeps the laws
pub silent_rules : {D : Type 0} (faults : D → ℕ) → IsDevice (silent faults)
silent_rules faults = record {
  contents_is_image = λ disk bytes told. none-some bytes told;
  base_is_image = λ disk bytes told. none-some bytes told;
  untold = λ disk nothing. (refl, λ image is_image. is_image);
  counts_now = λ disk t image passed is_image. is_image;
  only_now = λ disk image is_image. is_image;
}
