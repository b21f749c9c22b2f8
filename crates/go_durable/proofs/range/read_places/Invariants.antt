-- The loop of `read_places`.
use Rattle.std.proofs.Common.{◌+◌, ◌-◌, ◌*◌, ◌≤◌, List, length, vec_len, vec_capacity}
use Rattle.std.specs.Prelude.{min, IfSome}
use Rattle.go_word.specs.declared.edge.Edge.{Edge}
use Rattle.go_blocks.specs.declared.layout.TheConstants.{COUNT_LIMIT}
use Rattle.go_disk.specs.Disk.{Looks}
use Rattle.go_durable.specs.Moments.{LeavesOnly}
use Rattle.go_durable.specs.Ranging.{AddsRange}
use Rattle.go_durable.specs.Runs.{AddsCount, HasWords, gate_behind}
use Rattle.go_durable.specs.Writing.{IsThere}
use Rattle.go_durable.proofs.Ranges.{IsAt}
use Rattle.go_durable.proofs.range.read_places.Given as goal

-- the entries up to the next run were read
abbrev pub invariant-loop-at : goal.invariant-loop-at
invariant-loop-at g l = record {
  place : IsAt l.places l.number l.a l.at l.b;
  words : 8 * min (l.b - l.a) COUNT_LIMIT ≤ length l.words;
  room : vec_len l.out + (l.b - l.at) ≤ vec_capacity l.out;
  added : AddsCount (l.at - l.a) l.fn.out.items l.out.items;
  looks : Looks g.D.Disk.device l.fn.disk l.disk;
  moments : IsThere (g.D.Disk.device.contents l.fn.disk) (gate_behind l.places)
      → LeavesOnly g.D.Disk.device l.fn.disk l.disk (g.D.Disk.device.images l.fn.disk);
  shown : IfSome (g.D.Disk.device.contents l.fn.disk) (λ file.
      (log : List Edge) → HasWords l.places file log → AddsRange log l.a l.at l.fn.out.items l.out.items);
  faults : g.D.Disk.device.faults l.fn.disk ≤ g.D.Disk.device.faults l.disk;
}

-- each run has an entry
abbrev pub decreases-loop-at : goal.decreases-loop-at
decreases-loop-at g l = l.b - l.at
