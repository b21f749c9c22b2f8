-- `begin`: the slots of the positions so far wait for them, and the other words stay.
use Rattle.std.proofs.Common.{◌≡◌, ℕ, ◌+◌, ◌<◌, ◌≤◌, length}
use Rattle.std.specs.Prelude.{slice_index}
use Rattle.go_word.specs.Word.{blank_word}
use Rattle.go_core.specs.Frame.{slot}
use Rattle.go_core.proofs.opening.begin.Given as goal

abbrev pub invariant-loop-p : goal.invariant-loop-p
invariant-loop-p l =
    ((k : ℕ) → k < l.base → slice_index l.words k ≡ slice_index l.initial.words k)
    × ((q : ℕ) → l.first ≤ q → q < l.p → slot (record { slots = l.slots; base = l.base; first = l.first }) l.words q ≡ blank_word l.slots q)
    × (length l.words ≡ l.base + l.slots)
