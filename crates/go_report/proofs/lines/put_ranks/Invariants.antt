-- The items so far follow what stood there.
use Rattle.std.proofs.Common.{◌≡◌, ◌++◌, take}
use Rattle.go_report.specs.ReplyText.{ranks_of}
use Rattle.go_report.proofs.lines.put_ranks.Given as goal

abbrev pub invariant-loop-ranked : goal.invariant-loop-ranked
invariant-loop-ranked l = l.out.items ≡ l.initial.out.items ++ ranks_of (take l.ranked-index l.list)
