-- The loop of `put_entries`.
use Rattle.std.proofs.Common.{take}
use Rattle.go_api.specs.Calls.{PutsAll}
use Rattle.go_plain.specs.Plain.{standing_of, StaysStore, GoesOnBy}
use Rattle.go_plain.proofs.body.Body.put_entries.Given as goal

-- the entries so far were put
abbrev pub invariant-loop-edge : goal.invariant-loop-edge
invariant-loop-edge g l = record {
  puts : PutsAll (take l.edge-index l.edges) l.last (standing_of g.D.Disk.device l.fn.self l.number) (standing_of g.D.Disk.device l.self l.number);
  stays : StaysStore g.D.Disk.device l.fn.self l.self;
  on : GoesOnBy g.D.Disk.device l.number l.fn.self l.self;
}
