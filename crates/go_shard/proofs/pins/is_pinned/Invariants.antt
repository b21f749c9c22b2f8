-- The loop of `is_pinned`.
use Rattle.std.proofs.Common.{◌≡◌, take, false}
use Rattle.go_word.specs.Pins.{has_name}
use Rattle.go_shard.proofs.pins.is_pinned.Given as goal

-- no pin so far has the name
abbrev pub invariant-loop-pin : goal.invariant-loop-pin
invariant-loop-pin l = has_name l.id (take l.pin-index l.pins) ≡ false
