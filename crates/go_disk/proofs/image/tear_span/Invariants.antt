-- Places outside of the span are as they were.
use Rattle.std.proofs.Common.{◌≡◌, ℕ, ◌<◌, ◌≤◌, get_or}
use Rattle.go_disk.proofs.image.tear_span.Given as goal

abbrev pub invariant-loop-place : goal.invariant-loop-place
invariant-loop-place l = record {
  before : (k : ℕ) → k < l.from → get_or l.out k 0 ≡ get_or l.fn.out k 0;
  behind : (k : ℕ) → l.end ≤ k → get_or l.out k 0 ≡ get_or l.fn.out k 0;
}
