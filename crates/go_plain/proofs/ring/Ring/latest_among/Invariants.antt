-- The loop of `latest_among`.
use Rattle.std.proofs.Common.{◌≡◌, ◌≤◌, length, take}
use Rattle.go_plain.specs.Ring.{latest_of}
use Rattle.go_plain.proofs.ring.Ring.latest_among.Given as goal

-- the chain goes back
abbrev pub decreases-loop-number : goal.decreases-loop-number
decreases-loop-number l = l.number

-- the number is that of the vertex's latest entry below the slot
abbrev pub invariant-loop-number : goal.invariant-loop-number
invariant-loop-number l = record {
  ahead : l.count ≤ l.slot;
  within : l.slot ≤ length l.self.entries;
  number : l.number ≡ latest_of l.v (take l.slot l.self.entries);
}
