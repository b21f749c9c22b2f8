-- The loop of `add_run`.
use Rattle.std.proofs.Common.{ℕ, ◌+◌, ◌-◌, ◌≤◌, List, vec_len, vec_capacity}
use Rattle.go_word.specs.declared.edge.Edge.{Edge}
use Rattle.go_disk.specs.Disk.{Shows}
use Rattle.go_durable.specs.Ranging.{AddsRange}
use Rattle.go_durable.specs.Runs.{AddsCount, HasWords, place_of_word}
use Rattle.go_durable.proofs.Ranges.{IsAt}
use Rattle.go_durable.proofs.run.add_run.Given as goal

-- the entries up to the next block were added
abbrev pub invariant-loop-at : goal.invariant-loop-at
invariant-loop-at l = record {
  place : IsAt l.places l.number l.run.from l.at l.run.upto;
  room : vec_len l.out + (l.run.upto - l.at) ≤ vec_capacity l.out;
  added : AddsCount (l.at - l.run.from) l.fn.out.items l.out.items;
  shown : (file : List ℕ) (log : List Edge) → HasWords l.places file log → Shows file (place_of_word l.run.first l.run.from) l.bytes
      → AddsRange log l.run.from l.at l.fn.out.items l.out.items;
  capacity : vec_capacity l.fn.out ≤ vec_capacity l.out;
}

-- each block has an entry that is wanted
abbrev pub decreases-loop-at : goal.decreases-loop-at
decreases-loop-at l = l.run.upto - l.at
