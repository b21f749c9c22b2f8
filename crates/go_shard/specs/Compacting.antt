-- What it means that the listed lanes of a shard are compacted; no public contract speaks of it.
use Rattle.std.specs.Prelude.{◌≡◌, ◌⊎◌, ℕ, ◌<◌, ◌≤◌, if◌then◌else◌, true, false, List, ◌++◌, length, get_or, count_by, Option, None, Some}
use Rattle.go_word.specs.Word.{decode}
use Rattle.go_versions.specs.History.{count_at, reaches}
use Rattle.go_shard.specs.declared.renewal.Renewal.{Renewal}
use Rattle.go_shard.specs.Lane.{Lane, lane_at, known, IsCompacted}

-- a lane can be compacted at a front: it tells how many entries there were, which is no less than at its cut and no more than it has, and nothing
-- is promised
pub record CanCompact (front : ℕ) (lane : Lane) : Type 0 where
  pub told : lane.retired ≤ front
  pub from : lane.floor ≤ count_at lane.versions front
  pub there : count_at lane.versions front ≤ known lane
  pub settled : lane.promised ≡ 0

-- the entry in a word is an addition
pub record AddsOne (word : ℕ) : Type 0 where
  pub no_deletion : (decode word).del ≡ false

-- a lane after it took its renewal: its list goes on by that of the renewal, or the renewal has the whole list
abbrev pub renewed : Renewal → Lane → Lane
renewed renewal lane = record {
  base = if renewal.grows then lane.base ++ renewal.base.value.list.items else renewal.base.value.list.items;
  floor = renewal.base.value.floor;
  spare = 0;
  words = renewal.tail.words;
  versions = renewal.versions.versions;
  retired = renewal.versions.retired;
  promised = 0;
}

-- where the list of a lane goes on by that of the renewal, it has room for it
pub record HasRoomFor (renewal : Renewal) (lane : Lane) : Type 0 where
  pub room : renewal.grows ≡ true → length renewal.base.value.list.items ≤ lane.spare

-- a renewal holds on to little memory: its chain has room for few words beside those that it has, and one version at most is at or below the front
pub record IsSmall (front : ℕ) (renewal : Renewal) : Type 0 where
  pub words : renewal.tail.spare ≤ 255
  pub versions : count_by (reaches front) renewal.versions.versions ≤ 1

-- a renewal is that of a lane, compacted at a front: some more of its entries are before the cut
pub record IsRenewalOf (front : ℕ) (lane : Lane) (renewal : Renewal) : Type 0 where
  pub more : lane.floor < renewal.base.value.floor
  pub there : renewal.base.value.floor ≤ known lane
  pub room : HasRoomFor renewal lane
  pub small : IsSmall front renewal
  pub compacted : IsCompacted front lane (renewed renewal lane)

-- what a lane becomes when it is compacted at a front: without a renewal it stays what it is
abbrev pub Becomes : ℕ → Lane → Option Renewal → Type 0
Becomes front lane None = IsCompacted front lane lane
Becomes front lane (Some renewal) = IsRenewalOf front lane renewal

-- the renewals are those of the listed places, at a front
pub record AreRenewals (front : ℕ) (lanes : List Lane) (listed : List ℕ) (renewals : List (Option Renewal)) : Type 0 where
  pub count : length renewals ≡ length listed
  pub each : (k : ℕ) → k < length listed → Becomes front (lane_at lanes (get_or listed k 0)) (get_or renewals k None)

-- each lane is what it was or compacted at a front, and those at listed places are compacted
pub record HaveRenewed (front : ℕ) (old new : List Lane) (listed : List ℕ) : Type 0 where
  pub each : (place : ℕ) → (lane_at new place ≡ lane_at old place) ⊎ IsCompacted front (lane_at old place) (lane_at new place)
  pub done : (k : ℕ) → k < length listed → IsCompacted front (lane_at old (get_or listed k 0)) (lane_at new (get_or listed k 0))
