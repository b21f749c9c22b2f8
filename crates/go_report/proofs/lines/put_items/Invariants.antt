-- The items so far follow what stood there.
use Rattle.std.proofs.Common.{◌≡◌, ◌++◌, take}
use Rattle.go_report.specs.ReplyText.{items_of}
use Rattle.go_report.proofs.lines.put_items.Given as goal

abbrev pub invariant-loop-item : goal.invariant-loop-item
invariant-loop-item l = l.out.items ≡ l.initial.out.items ++ items_of (take l.item-index l.list)
