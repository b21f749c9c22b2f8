-- The loop of `append_additions`.
use Rattle.std.proofs.Common.{◌≡◌, ◌++◌, take}
use Rattle.go_net.specs.Tally.{additions}
use Rattle.go_net.proofs.count.append_additions.Given as goal

-- the list has the additions among the words so far behind what it had
abbrev pub invariant-loop-word : goal.invariant-loop-word
invariant-loop-word l = l.list.items ≡ l.initial.list.items ++ additions (take l.word-index l.words)
