-- The words that are kept, and those from the place on, are the first words of the line.
use Rattle.std.proofs.Common.{◌≡◌, ◌≤◌, take, drop, ◌-◌, ◌++◌, length}
use Rattle.go_text.specs.Word.{words}
use Rattle.go_text.specs.Texts.{texts}
use Rattle.go_text.proofs.words.FirstWords.of.Given as goal

abbrev pub invariant-loop-len : goal.invariant-loop-len
invariant-loop-len l = (l.from ≤ length l.line) × (length l.list ≡ 5) × (texts (take l.len l.list) ++ take (5 - l.len) (words (drop l.from l.line))
    ≡ take 5 (words l.line))
