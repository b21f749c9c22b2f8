-- How many versions have room; no public contract says how they are kept.
use Rattle.std.specs.Prelude.{◌≡◌, ℕ, ◌==◌, ◌+◌, ◌-◌, ◌≤◌, if◌then◌else◌, List, length}
use Rattle.go_versions.specs.Version.{Version}

-- with so many versions in place, and so many in a vector of some capacity: up to four go in place as long as the vector has none
abbrev pub room_of : ℕ → ℕ → ℕ → ℕ
room_of early later capacity = (if later == 0 then 4 - early else 0) + (capacity - later)

-- there are four places, and no more of them used
pub record IsFew (used : ℕ) (versions : List Version) : Type 0 where
  pub within : used ≤ 4
  pub places : length versions ≡ 4
