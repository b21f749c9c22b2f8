-- The loop of `forget`.
use Rattle.std.proofs.Common.{◌≡◌, ℕ, ◌==◌, if◌then◌else◌, get_or, length, take}
use Rattle.go_word.specs.Log.{raw}
use Rattle.go_plain.proofs.ring.forget.Given as goal

-- the vertices of the entries so far are told none
abbrev pub invariant-loop-edge : goal.invariant-loop-edge
invariant-loop-edge l = record {
  all : length l.latest.items ≡ length l.initial.latest.items;
  gone : (s : ℕ) → get_or l.latest.items s 0 ≡ (if raw (take l.edge-index l.entries) s == 0 then get_or l.initial.latest.items s 0 else 0);
}
