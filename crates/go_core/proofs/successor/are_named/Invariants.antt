-- `are_named`: the names so far stand once each.
use Rattle.std.proofs.Common.{ℕ, ◌≡◌, ◌<◌}
use Rattle.std.specs.Prelude.{count_by, slice_index_or}
use Rattle.go_word.specs.declared.pin.Pin.{Pin}
use Rattle.go_word.specs.Pins.{is_named}
use Rattle.go_core.proofs.successor.are_named.Given as goal

abbrev pub invariant-loop-pin : goal.invariant-loop-pin
invariant-loop-pin l = (k : ℕ) (d : Pin) → k < l.pin-index → count_by (is_named (slice_index_or l.pins k d).id) l.among ≡ 1
