-- Small lemmas on lists.
use Rattle.std.proofs.Common.{◌≡◌, ℕ, zero, suc, ◌+◌, ◌<◌, List, [], ◌∷◌, ◌++◌, length, drop, slice_get, slice_set, Some, refl, ap, arith, add-one}
use Rattle.std.proofs.Math.Seq.{drop-cons}
use Rattle.std.proofs.lemmas.Option.{slice_get_within, get_or_from_slice_get}

-- an element stays where it is when the list grows
pub slice_get_longer : {X : Type 0} → (xs ys : List X) (k : ℕ) (x : X) → slice_get xs k ≡ Some x → slice_get (xs ++ ys) k ≡ Some x
slice_get_longer [] ys k x here = absurd (omega (arith, slice_get_within [] k x here))
slice_get_longer (z ∷ xs) ys zero x here = here
slice_get_longer (z ∷ xs) ys (suc k) x here = slice_get_longer xs ys k x here

-- the element that comes last
pub slice_get_last : {X : Type 0} → (xs : List X) (x : X) → slice_get (xs ++ x ∷ []) (length xs) ≡ Some x
slice_get_last [] x = refl
slice_get_last (z ∷ xs) x = slice_get_last xs x

-- an element, and what lies behind it
pub drop_next : {X : Type 0} → (xs : List X) (k : ℕ) (x : X) → slice_get xs k ≡ Some x → drop k xs ≡ x ∷ drop (k + 1) xs
drop_next xs k x here =
    let within = slice_get_within xs k x here in
    rw (add-one, drop-cons xs k x) (ap (λ y. y ∷ drop (suc k) xs) (get_or_from_slice_get xs k x x here))

-- an element after one was replaced: the new one at its place, and each other as it was
pub slice_get_replaced : {X : Type 0} → (xs : List X) (k : ℕ) (x : X) → k < length xs → slice_get (slice_set xs k x) k ≡ Some x
slice_get_replaced [] k x within = absurd (omega arith)
slice_get_replaced (z ∷ xs) zero x within = refl
slice_get_replaced (z ∷ xs) (suc k) x within = slice_get_replaced xs k x (omega arith)

pub slice_get_beside : {X : Type 0} → (xs : List X) (k j : ℕ) (x : X) → (k ≡ j → ⊥) → slice_get (slice_set xs k x) j ≡ slice_get xs j
slice_get_beside [] k j x other = refl
slice_get_beside (z ∷ xs) zero zero x other = absurd (other refl)
slice_get_beside (z ∷ xs) zero (suc j) x other = refl
slice_get_beside (z ∷ xs) (suc k) zero x other = refl
slice_get_beside (z ∷ xs) (suc k) (suc j) x other = slice_get_beside xs k j x (λ same. other (ap (λ n. suc n) same))
