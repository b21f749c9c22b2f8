-- Lemmas on the neighbours of a vertex.
use Rattle.std.proofs.Common.{◌≡◌, ℕ, ◌<◌, ◌≢◌, List, [], ◌∷◌, length, get_or, refl, arith, remove, zero, suc}
use Rattle.std.proofs.lemmas.Bool.Decides.{nat_tests}
use Rattle.go_word.specs.Neighbours.{without_first}

-- where d isn't in the list, nothing is taken out
pub without_first_absent : (d : ℕ) (xs : List ℕ) → ((k : ℕ) → k < length xs → get_or xs k 0 ≢ d) → xs ≡ without_first d xs
without_first_absent d [] absent = refl
without_first_absent d (x ∷ xs) absent =
    let head : x ≢ d = absent 0 (omega arith) in
    let rest : xs ≡ without_first d xs = without_first_absent d xs (λ k h. absent (suc k) (omega arith)) in
    grind (arith, nat_tests)

-- the earliest d is taken out at its place
pub without_first_at : (d : ℕ) (xs : List ℕ) (i : ℕ) → i < length xs → get_or xs i 0 ≡ d → ((k : ℕ) → k < i → get_or xs k 0 ≢ d) →
    remove xs i ≡ without_first d xs
without_first_at d [] i within here before = absurd (omega arith)
without_first_at d (x ∷ xs) zero within here before = grind (arith, nat_tests)
without_first_at d (x ∷ xs) (suc i) within here before =
    let head : x ≢ d = before 0 (omega arith) in
    let rest : remove xs i ≡ without_first d xs = without_first_at d xs i (omega arith) here (λ k h. before (suc k) (omega arith)) in
    grind (arith, nat_tests)
