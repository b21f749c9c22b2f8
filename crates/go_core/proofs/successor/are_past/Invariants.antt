-- `are_past`: the pins so far are at or past the cut.
use Rattle.std.proofs.Common.{ℕ, ◌<◌, ◌≤◌}
use Rattle.std.specs.Prelude.{slice_index_or}
use Rattle.go_word.specs.declared.pin.Pin.{Pin}
use Rattle.go_core.proofs.successor.are_past.Given as goal

abbrev pub invariant-loop-pin : goal.invariant-loop-pin
invariant-loop-pin l = (k : ℕ) (d : Pin) → k < l.pin-index → l.cut ≤ (slice_index_or l.pins k d).front
