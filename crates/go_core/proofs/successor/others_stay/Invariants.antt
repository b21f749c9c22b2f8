-- `others_stay`: the pins so far stay, where they are another party's.
use Rattle.std.proofs.Common.{ℕ, ◌≡◌, ◌<◌, false}
use Rattle.std.specs.Prelude.{find, Some, slice_index_or}
use Rattle.go_word.specs.declared.pin.Pin.{Pin}
use Rattle.go_word.specs.Pins.{is_named}
use Rattle.go_core.specs.Pins.{owns_name}
use Rattle.go_core.proofs.successor.others_stay.Given as goal

abbrev pub invariant-loop-pin : goal.invariant-loop-pin
invariant-loop-pin l = (k : ℕ) (d : Pin) → k < l.pin-index → owns_name (slice_index_or l.old k d).id l.stake.pins l.stake.put ≡ false
    → find (is_named (slice_index_or l.old k d).id) l.new ≡ Some (slice_index_or l.old k d)
