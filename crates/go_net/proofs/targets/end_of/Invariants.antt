-- The loop of `end_of`.
use Rattle.std.proofs.Common.{◌≡◌, ℕ, ◌<◌, ◌≤◌, ◌^◌, get_or, true}
use Rattle.go_word.specs.Word.{decode}
use Rattle.go_net.proofs.targets.end_of.Given as goal

-- each deletion so far has its destination below the end
abbrev pub invariant-loop-word : goal.invariant-loop-word
invariant-loop-word l = record {
  small : l.end ≤ 2 ^ 32;
  above : (k : ℕ) → k < l.word-index → (decode (get_or l.words k 0)).del ≡ true → (decode (get_or l.words k 0)).dst < l.end;
}
