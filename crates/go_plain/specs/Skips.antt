-- How the chains of a ring's entries are followed past all entries behind a mark.
use Rattle.std.specs.Prelude.{◌≡◌, ℕ, ◌<◌, ◌≤◌, List, length, get_or, take}
use Rattle.go_word.specs.declared.edge.Edge.{Edge}
use Rattle.go_plain.specs.Ring.{latest_of}
use Rattle.go_plain.specs.declared.skip.Skip.{Skip}

-- what stands where there is no entry
abbrev pub no_skip : Skip
no_skip = record { mark = 0; latest = 0 }

-- from an entry of a vertex it is known which of the first entries before it, up to a mark, is the latest of that vertex
pub record SkipsTo (entries : List Edge) (skip : Skip) (vertex slot : ℕ) : Type 0 where
  pub before : skip.mark ≤ slot
  pub latest : skip.latest ≡ latest_of vertex (take skip.mark entries)

-- it is known from each entry, and from those behind the mark that was set last it is known of that mark
pub record HasSkips (entries : List Edge) (skips : List Skip) (mark : ℕ) : Type 0 where
  pub count : length skips ≡ length entries
  pub within : mark ≤ length entries
  pub each : (k : ℕ) (d : Edge) → k < length entries → SkipsTo entries (get_or skips k no_skip) (get_or entries k d).src k
  pub newest : (k : ℕ) → mark ≤ k → k < length entries → (get_or skips k no_skip).mark ≡ mark
