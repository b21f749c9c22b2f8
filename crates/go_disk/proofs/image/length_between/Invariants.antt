-- The greatest end so far, and of what is left.
use Rattle.std.proofs.Common.{◌≡◌, ◌≤◌, drop}
use Rattle.go_disk.specs.Image.{greatest_end}
use Rattle.go_disk.proofs.image.length_between.Given as goal

abbrev pub invariant-loop-span : goal.invariant-loop-span
invariant-loop-span l = record {
  ends : greatest_end l.end (drop l.span-index l.spans) ≡ greatest_end l.stable l.spans;
  above : l.stable ≤ l.end;
}
