-- `all_follow`: the pins so far may stand.
use Rattle.std.proofs.Common.{ℕ, ◌<◌}
use Rattle.std.specs.Prelude.{find, slice_index_or}
use Rattle.go_word.specs.declared.pin.Pin.{Pin}
use Rattle.go_word.specs.Pins.{is_named}
use Rattle.go_core.specs.Pins.{owns_name}
use Rattle.go_core.specs.Parts.{Follows}
use Rattle.go_core.proofs.successor.all_follow.Given as goal

abbrev pub invariant-loop-pin : goal.invariant-loop-pin
invariant-loop-pin l = (k : ℕ) (d : Pin) → k < l.pin-index
    → Follows l.cut l.archived (owns_name (slice_index_or l.new k d).id l.stake.pins l.stake.put) (find (is_named (slice_index_or l.new k d).id) l.old)
    (slice_index_or l.new k d)
