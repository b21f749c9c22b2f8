-- Lemmas on rows side by side: how many there are, where one lies, and what one more leaves of the others.
use Rattle.std.proofs.Common.{◌≡◌, ℕ, zero, suc, ◌-◌, ◌<◌, ◌≤◌, List, [], ◌∷◌, ◌++◌, length, take, drop, get_or, refl, ap, arith, ◌∙◌, length-append}
use Rattle.std.proofs.lemmas.List.{take-append-le, drop-append-le, length-drop}
use Rattle.std.proofs.Math.Seq.{drop-append_seam}
use Rattle.std.proofs.Common.{take_all}
use Rattle.go_rows.specs.Rows.{rows_from, start_of, AreEnds}

-- there is a row for each end
pub rows_count : (start : ℕ) (ends targets : List ℕ) → length (rows_from start ends targets) ≡ length ends
rows_count start [] targets = refl
rows_count start (end ∷ ends) targets = ap suc (rows_count end ends targets)

-- what begins a row lies within the targets
pub starts_within : (start : ℕ) (ends : List ℕ) (count : ℕ) → AreEnds start ends count → start ≤ count
starts_within start [] count are = omega (arith, are)
starts_within start (end ∷ ends) count are = omega (arith, are.0, starts_within end ends count are.1)

-- a row ends within the targets, and not before it begins
pub record IsPart (ends : List ℕ) (start number count : ℕ) : Type 0 where
  pub order : start_of start ends number ≤ get_or ends number 0
  pub within : get_or ends number 0 ≤ count

pub part_at : (start : ℕ) (ends : List ℕ) (count number : ℕ) → AreEnds start ends count → number < length ends → IsPart ends start number count
part_at start [] count number are there = absurd (omega (arith, there))
part_at start (end ∷ ends) count zero are there = record { order = are.0; within = starts_within end ends count are.1 }
part_at start (end ∷ ends) count (suc zero) are there =
    let rest = part_at end ends count zero are.1 (omega (arith, there)) in record { order = rest.order; within = rest.within }
part_at start (end ∷ ends) count (suc (suc n)) are there =
    let rest = part_at end ends count (suc n) are.1 (omega (arith, there)) in record { order = rest.order; within = rest.within }

-- a row, by where it begins and ends
pub row_at : (start : ℕ) (ends targets : List ℕ) (number : ℕ) → number < length ends →
    get_or (rows_from start ends targets) number [] ≡ take (get_or ends number 0 - start_of start ends number) (drop (start_of start ends number) targets)
row_at start [] targets number there = absurd (omega (arith, there))
row_at start (end ∷ ends) targets zero there = refl
row_at start (end ∷ ends) targets (suc zero) there = row_at end ends targets zero (omega (arith, there))
row_at start (end ∷ ends) targets (suc (suc n)) there = row_at end ends targets (suc n) (omega (arith, there))

-- one more row comes last, and leaves the others
pub one_more : (start : ℕ) (ends targets row : List ℕ) → AreEnds start ends (length targets) →
    rows_from start (ends ++ length (targets ++ row) ∷ []) (targets ++ row) ≡ rows_from start ends targets ++ row ∷ []
one_more start [] targets row are =
    let behind : drop start (targets ++ row) ≡ row = ap (λ (n : ℕ). drop n (targets ++ row)) are ∙ drop-append_seam targets row in
    let count : length (targets ++ row) - start ≡ length row = omega (arith, are, length-append targets row) in
    ap (λ (l : List ℕ). l ∷ []) (ap (λ (n : ℕ). take n (drop start (targets ++ row))) count ∙ ap (take (length row)) behind
    ∙ take_all (length row) row (omega arith))
one_more start (end ∷ ends) targets row are =
    let within = starts_within end ends (length targets) are.1 in
    let from : drop start (targets ++ row) ≡ drop start targets ++ row = drop-append-le start targets row (omega (arith, are.0, within)) in
    let first : take (end - start) (drop start (targets ++ row)) ≡ take (end - start) (drop start targets) =
    ap (take (end - start)) from ∙ take-append-le (end - start) (drop start targets) row (omega (arith, length-drop start targets, within)) in
    ap (λ (l : List ℕ). l ∷ rows_from end (ends ++ length (targets ++ row) ∷ []) (targets ++ row)) first
    ∙ ap (λ (l : List (List ℕ)). take (end - start) (drop start targets) ∷ l) (one_more end ends targets row are.1)

-- and ends where the targets do
pub ends_more : (start : ℕ) (ends targets row : List ℕ) → AreEnds start ends (length targets) →
    AreEnds start (ends ++ length (targets ++ row) ∷ []) (length (targets ++ row))
ends_more start [] targets row are = (omega (arith, are, length-append targets row), refl)
ends_more start (end ∷ ends) targets row are = (are.0, ends_more end ends targets row are.1)

-- a row that isn't the first begins where the one before it ends
pub start_after : (start : ℕ) (ends : List ℕ) (number : ℕ) → 1 ≤ number → start_of start ends number ≡ get_or ends (number - 1) 0
start_after start ends zero later = absurd (omega (arith, later))
start_after start ends (suc n) later = ap (λ (k : ℕ). get_or ends k 0) (omega arith)
