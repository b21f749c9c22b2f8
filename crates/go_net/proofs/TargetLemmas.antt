-- Lemmas on targets: rising lists, and what is looked up in them.
use Rattle.std.proofs.Common.{◌≡◌, ℕ, zero, suc, ◌+◌, ◌<◌, ◌≤◌, List, [], ◌∷◌, ◌++◌, ap, sym, ◌∙◌, add-one, length, get_or, arith, refl, true, eqb}
use Rattle.std.proofs.lemmas.List.Kept.{AllPairs-from_increasing}
use Rattle.std.proofs.lemmas.List.Sorted.{searched}
use Rattle.std.proofs.lemmas.Grind.{get_or_default_zero}
use Rattle.std.specs.Prelude.{Contains, Result, Ok, Err, MatchOption}
use Rattle.std.specs.Ordering.{nat_cmp}
use Rattle.std.specs.List.{dedup, range_with_len, All}
use Rattle.std.proofs.lemmas.List.FromFn.{length-range_with_len, get_or-range_with_len}
use Rattle.std.proofs.lemmas.List.Kept.{Contains-dedup_nat}
use Rattle.std.proofs.lemmas.List.Sorted.{Contains-permutation}
use Rattle.go_word.specs.Word.{decode}
use Rattle.std.specs.Result.{result_ok}
use Rattle.std.specs.List.Sorted.{IsStrictlyIncreasing, IsBinarySearchResult, IsPermutation}
use Rattle.go_net.specs.Tally.{StandsAt, HasTargetsOf}

-- in a rising list each number is below all later ones
pub rising : (xs : List ℕ) → IsStrictlyIncreasing xs → (i j : ℕ) → i < j → j < length xs → get_or xs i 0 < get_or xs j 0
rising xs increasing i j before within = AllPairs-from_increasing xs increasing i j 0 before within

-- and no number is above a later one
pub rising-le : (xs : List ℕ) → IsStrictlyIncreasing xs → (i j : ℕ) → i ≤ j → j < length xs → get_or xs i 0 ≤ get_or xs j 0
rising-le xs increasing i j before within =
    let same : i ≡ j → get_or xs i 0 ≡ get_or xs j 0 = λ e. rw e refl in
    let strict : i < j → get_or xs i 0 < get_or xs j 0 = λ h. rising xs increasing i j h within in
    grind (arith, same, strict)

-- what is read where something stands doesn't depend on what is read past the end
get_or_any : (xs : List ℕ) (k d : ℕ) → k < length xs → get_or xs k d ≡ d → get_or xs k 0 ≡ d
get_or_any xs k d within at = let same : get_or xs k d ≡ get_or xs k 0 = get_or_default_zero xs k d within in grind (arith, same, at)

-- what a search in a rising list finds is the place of a target, and what it doesn't find is none
pub place-searched : (targets : List ℕ) (d : ℕ) (r : Result ℕ ℕ) → IsStrictlyIncreasing targets → IsBinarySearchResult (λ y. nat_cmp y d) targets r →
    MatchOption (result_ok r) (Contains targets d → ⊥) (λ place. StandsAt targets d place)
place-searched targets d (Ok place) increasing search_result =
    let found = searched targets d (Ok place) search_result (rising-le targets increasing) in
    record {
      within = found.0;
      here = found.1;
      first = λ k h. let below = rising targets increasing k place h found.0 in let at = found.1 in omega arith;
    }
place-searched targets d (Err place) increasing search_result =
    let missed = searched targets d (Err place) search_result (rising-le targets increasing) in
    λ among.
    let k = among.0 in
    let below : k < place → get_or targets k 0 < d = missed.1 k in
    let above : place ≤ k → d < get_or targets k 0 = λ h. missed.2 k h among.1 in
    let at : get_or targets k 0 ≡ d = get_or_any targets k d among.1 among.2 in
    grind (arith, below, above, at)

-- the targets are still there once they are sorted and stand once each
pub HasTargetsOf-sorted : (words raw sorted final : List ℕ)
    → ((k : ℕ) → k < length words → (decode (get_or words k 0)).del ≡ true → Contains raw (decode (get_or words k 0)).dst)
    → IsPermutation raw sorted → final ≡ dedup eqb sorted → HasTargetsOf final words
HasTargetsOf-sorted words raw sorted final among permutation is = λ k d within.
    rw (get_or_default_zero words k d within, is) (λ deletes. Contains-dedup_nat sorted _
    (Contains-permutation raw sorted _ permutation (among k within deletes)))

-- the numbers from one on, with one number more
range-push : (a n : ℕ) → range_with_len a n ++ (a + n) ∷ [] ≡ range_with_len a (suc n)
range-push a zero = let here : a + 0 ≡ a = omega arith in rw here refl
range-push a (suc n) =
    let next : a + suc n ≡ (a + 1) + n = omega arith in
    rw next (ap (λ l. a ∷ l) (range-push (a + 1) n))

-- the numbers below an end, with the end itself
pub below-push : (n : ℕ) → range_with_len 0 n ++ n ∷ [] ≡ range_with_len 0 (n + 1)
below-push n =
    let same : 0 + n ≡ n = omega arith in
    rw add-one (ap (λ k. range_with_len 0 n ++ k ∷ []) (sym same) ∙ range-push 0 n)

-- the numbers from 0 on rise
pub rising-below : (n : ℕ) → IsStrictlyIncreasing (range_with_len 0 n)
rising-below n = λ k within.
    let long : length (range_with_len 0 n) ≡ n = length-range_with_len 0 n in
    let here : get_or (range_with_len 0 n) k 0 ≡ 0 + k = get_or-range_with_len 0 n k 0 (omega arith) in
    let next : get_or (range_with_len 0 n) (k + 1) 0 ≡ 0 + (k + 1) = get_or-range_with_len 0 n (k + 1) 0 (omega arith) in
    omega (arith, here, next)

-- the numbers below an end are targets for words whose deletions all have destinations below it
pub HasTargetsOf-below : (words : List ℕ) (end : ℕ) → All (λ word. (decode word).del ≡ true → (decode word).dst < end) words →
    HasTargetsOf (range_with_len 0 end) words
HasTargetsOf-below words end below = λ k d within deletes.
    let target = (decode (get_or words k d)).dst in
    let short : target < end = below k d within deletes in
    let long : length (range_with_len 0 end) ≡ end = length-range_with_len 0 end in
    let at : get_or (range_with_len 0 end) target target ≡ 0 + target = get_or-range_with_len 0 end target target short in
    (target, omega arith, omega (arith, at))

-- a number that stands at its own place among the targets stands nowhere before
pub place-own : (targets : List ℕ) (d : ℕ) → IsStrictlyIncreasing targets → d < length targets → get_or targets d 0 ≡ d → StandsAt targets d d
place-own targets d increasing within at = record {
  within = within;
  here = at;
  first = λ k h. let below = rising targets increasing k d h within in omega arith;
}
