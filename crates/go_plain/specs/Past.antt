-- The log of a plain store, put together from what was opened, the rings that were moved to the shards, and the ring.
use Rattle.std.specs.Prelude.{ℕ, List, ◌++◌}
use Rattle.std.specs.List.{flat_map}
use Rattle.go_word.specs.declared.edge.Edge.{Edge}
use Rattle.go_plain.specs.Ring.{RingState}

-- the entries of rings, one after another
abbrev pub entries_of : List RingState → List Edge
entries_of rings = flat_map (λ ring. ring.entries) rings

-- who put them
abbrev pub owners_in : List RingState → List ℕ
owners_in rings = flat_map (λ ring. ring.owners) rings

-- the old log, the entries that were moved out of the ring, and those in it
abbrev pub log_of : List Edge → List RingState → RingState → List Edge
log_of old past ring = old ++ (entries_of past ++ ring.entries)

-- who put the entries that were moved out of the ring, and those in it
abbrev pub owners_of : List RingState → RingState → List ℕ
owners_of past ring = owners_in past ++ ring.owners
