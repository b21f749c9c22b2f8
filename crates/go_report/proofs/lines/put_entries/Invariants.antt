-- The items so far follow what stood there.
use Rattle.std.proofs.Common.{◌≡◌, ◌++◌, take}
use Rattle.go_report.specs.ReplyText.{entries_of}
use Rattle.go_report.proofs.lines.put_entries.Given as goal

abbrev pub invariant-loop-edge : goal.invariant-loop-edge
invariant-loop-edge l = l.out.items ≡ l.initial.out.items ++ entries_of (take l.edge-index l.list)
