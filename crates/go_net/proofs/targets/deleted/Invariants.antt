-- The loop of `deleted`.
use Rattle.std.proofs.Common.{◌≡◌, ℕ, ◌<◌, get_or, true}
use Rattle.std.specs.Prelude.{Contains}
use Rattle.go_word.specs.Word.{decode}
use Rattle.go_net.proofs.targets.deleted.Given as goal

-- each deletion so far has its destination among the targets
abbrev pub invariant-loop-word : goal.invariant-loop-word
invariant-loop-word l = (k : ℕ) → k < l.word-index → (decode (get_or l.words k 0)).del ≡ true → Contains l.targets.items (decode (get_or l.words k 0)).dst
