-- No vertex has more neighbours than a log has entries.
use Rattle.std.proofs.Common.{◌≡◌, ℕ, ◌+◌, ◌<◌, ◌≤◌, ◌==◌, ◌^◌, if◌then◌else◌, Bool, true, false}
use Rattle.std.proofs.Common.{List, [], ◌∷◌, ◌++◌, length, take, refl, arith, inl, inr, length-append}
use Rattle.std.specs.Prelude.{fold}
use Rattle.std.proofs.lemmas.Bool.Decides.{eqb_tells}
use Rattle.std.proofs.lemmas.List.{length-take}
use Rattle.go_word.specs.declared.edge.Edge.{Edge}
use Rattle.go_word.specs.Neighbours.{without_first, after_entry, neighbours}

without_shorter : (d : ℕ) (xs : List ℕ) → length (without_first d xs) ≤ length xs
without_shorter d [] = omega arith
without_shorter d (x ∷ xs) =
    let rest = without_shorter d xs in
    elim (eqb_tells x d) [
      | inl h ↦ rw (h.0) (omega arith)
      | inr h ↦ rw (h.0) (omega (arith, rest))
    ]

-- an entry adds one at most
after_longer : (s : ℕ) (before : List ℕ) (e : Edge) → length (after_entry s before e) ≤ length before + 1
after_longer s before e = elim (eqb_tells e.src s) [
  | inl h ↦ rw (h.0) (by_kind e.del)
  | inr h ↦ rw (h.0) (omega arith)
] where
  by_kind : (del : Bool) → length (if del then without_first e.dst before else before ++ e.dst ∷ []) ≤ length before + 1
  by_kind true = omega (arith, without_shorter e.dst before)
  by_kind false = omega (arith, length-append before (e.dst ∷ []))

all_longer : (s : ℕ) (before : List ℕ) (log : List Edge) → length (fold (after_entry s) before log) ≤ length before + length log
all_longer s before [] = omega arith
all_longer s before (e ∷ log) = omega (arith, all_longer s (after_entry s before e) log, after_longer s before e)

-- so their number fits where that of the entries does
pub neighbours_short : (log : List Edge) (front s : ℕ) → length log < 2 ^ 32 → length (neighbours (take front log) s) < 2 ^ 32
neighbours_short log front s short = omega (arith, all_longer s [] (take front log), length-take front log, short)
