-- Places outside of all spans are as they were.
use Rattle.std.proofs.Common.{◌≡◌, ℕ, get_or}
use Rattle.std.specs.Prelude.{All}
use Rattle.go_disk.specs.Image.{IsOutside}
use Rattle.go_disk.proofs.image.tear.Given as goal

abbrev pub invariant-loop-span : goal.invariant-loop-span
invariant-loop-span l = (k : ℕ) → All (IsOutside k) l.spans → get_or l.out k 0 ≡ get_or l.fn.out k 0
