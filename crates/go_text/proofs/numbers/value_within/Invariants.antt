-- The value so far is that of the digits taken so far.
use Rattle.std.proofs.Common.{◌≡◌, take}
use Rattle.go_text.specs.Number.{value_of}
use Rattle.go_text.proofs.numbers.value_within.Given as goal

abbrev pub invariant-loop-digit : goal.invariant-loop-digit
invariant-loop-digit l = l.value ≡ value_of (take l.digit-index l.digits)
