-- The value so far is that of the digits so far, and no more than they can write.
use Rattle.std.proofs.Common.{◌≡◌, ◌<◌, ◌≤◌, ◌^◌, take}
use Rattle.go_text.specs.Number.{digits_in_front, value_of}
use Rattle.go_text.proofs.numbers.short_number.Given as goal

abbrev pub invariant-loop-at : goal.invariant-loop-at
invariant-loop-at l = record {
  front : l.at ≤ digits_in_front l.bytes;
  value : l.value ≡ value_of (take l.at l.bytes);
  small : l.value < 10 ^ l.at;
}
