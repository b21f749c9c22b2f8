-- What the fields of a ring stand for.
use Rattle.std.specs.Prelude.{◌≤◌, length, vec_capacity}
use Rattle.go_plain.specs.Ring.{RingState, IsRing, IsChained}
use Rattle.go_plain.specs.Skips.{HasSkips}
use Rattle.go_plain.specs.declared.ring.Ring.TheInside.{Inside}

-- the ring: its entries and who put them, for how many it has room, and its number of vertices
abbrev pub ring_of : Inside → RingState
ring_of ring = record { entries = ring.entries.items; owners = ring.owners.items; room = ring.room; vertices = length ring.latest.items }

-- there is memory for all entries that the ring has room for
pub record HasMemory (ring : Inside) : Type 0 where
  pub entries : ring.room ≤ vec_capacity ring.entries
  pub owners : ring.room ≤ vec_capacity ring.owners
  pub prior : ring.room ≤ vec_capacity ring.prior
  pub skips : ring.room ≤ vec_capacity ring.skips

-- the entries are chained, each chain can be followed past the marks, and there is memory for all
pub record IsKept (ring : Inside) : Type 0 where
  pub sound : IsRing (ring_of ring)
  pub chained : IsChained ring.entries.items ring.latest.items ring.prior.items
  pub skipping : HasSkips ring.entries.items ring.skips.items ring.mark
  pub memory : HasMemory ring
