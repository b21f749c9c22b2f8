-- The entries of a claim.
use Rattle.std.specs.Prelude.{List, take}
use Rattle.go_core.specs.declared.entry.Entry.{Entry}
use Rattle.go_core.specs.View.{numbered}
use Rattle.go_ring.specs.declared.claim.Claim.{Claim}

-- the edges of a claim, each at its position
abbrev pub entries_in : Claim → List Entry
entries_in c = numbered c.first (take c.len c.edges)
