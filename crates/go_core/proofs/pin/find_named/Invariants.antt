-- `find_named`: what is found in the rest is what is found at all.
use Rattle.std.proofs.Common.{◌≡◌, length}
use Rattle.std.specs.Prelude.{find}
use Rattle.go_word.specs.Pins.{is_named}
use Rattle.go_core.proofs.pin.find_named.Given as goal

abbrev pub invariant-loop-pin : goal.invariant-loop-pin
invariant-loop-pin l = find (is_named l.id) l.rest.rest.now ≡ find (is_named l.id) l.pins

abbrev pub decreases-loop-pin : goal.decreases-loop-pin
decreases-loop-pin l = length l.rest.rest.now
