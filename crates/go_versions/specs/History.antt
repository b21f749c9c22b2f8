-- What the contracts see of a number's versions, and the count that they tell at a front.
use Rattle.std.specs.Prelude.{ℕ, ◌<◌, ◌≤◌, List, [], ◌∷◌, Bool, nat_le}
use Rattle.std.specs.List.{filter, AllPairs}
use Rattle.go_versions.specs.Version.{Version}

-- the versions in the order in which they were noted, the front below which nothing is answered any more, and how many versions may be noted
-- before memory is asked for
pub record History : Type 0 where
  pub versions : List Version
  pub retired : ℕ
  pub spare : ℕ

-- a version stands at or below a front
abbrev pub reaches : ℕ → Version → Bool
reaches front version = nat_le version.front front

-- the count of the last version, and 0 where there is none
abbrev pub last_count : List Version → ℕ
last_count [] = 0
last_count (version ∷ []) = version.count
last_count (_ ∷ next ∷ versions) = last_count (next ∷ versions)

-- the count at a front: that of the last version at or below it, and 0 where there is none
abbrev pub count_at : List Version → ℕ → ℕ
count_at versions front = last_count (filter (reaches front) versions)

-- a version may come before another: its front is below the other's, and its count is no greater
pub record IsBefore (version other : Version) : Type 0 where
  pub front : version.front < other.front
  pub count : version.count ≤ other.count

-- fronts rise along the versions and counts never fall, so that the last version at or below a front is the one with the greatest front there
abbrev pub IsRising : List Version → Type 0
IsRising versions = AllPairs IsBefore versions
