-- Members of lists, and lists in order that have the same.
use Rattle.std.proofs.Common.{◌≡◌, zero, suc, ◌⊎◌, inl, inr, ⊎_elim, List, [], ◌∷◌, refl, sym, ◌∙◌, subst, arith}
use Rattle.std.proofs.lemmas.List.Elements.{All-contains}
use Rattle.std.specs.List.{AllPairs}
use Rattle.std.specs.Prelude.{All, Contains}

-- the first of a list is in it
pub Contains-first : {X : Type 0} → (x : X) (xs : List X) → Contains (x ∷ xs) x
Contains-first x xs = (0, omega arith, refl)

-- so is what is in the rest
pub Contains-later : {X : Type 0} → (x : X) (xs : List X) (v : X) → Contains xs v → Contains (x ∷ xs) v
Contains-later x xs v among = (suc among.0, (let w = among.1 in omega arith), among.2)

-- and nothing else
pub Contains-which : {X : Type 0} → (x : X) (xs : List X) (v : X) → Contains (x ∷ xs) v → (x ≡ v) ⊎ Contains xs v
Contains-which x xs v (zero, within, at) = inl at
Contains-which x xs v (suc k, within, at) = inr (k, omega arith, at)

-- nothing is in an empty list
pub Contains-none : {X : Type 0} → (v : X) → Contains [] v → ⊥
Contains-none v among = let w = among.1 in omega arith

-- the first one of a list in order stands before each later one
pub AllPairs-first : {X : Type 0} (R : X → X → Type 0) → (x : X) (xs : List X) → AllPairs R (x ∷ xs) → All (R x) xs
AllPairs-first R x xs pairs = λ k d within. pairs 0 (suc k) d (omega arith) (omega arith)

-- and the later ones are in order
pub AllPairs-rest : {X : Type 0} (R : X → X → Type 0) → (x : X) (xs : List X) → AllPairs R (x ∷ xs) → AllPairs R xs
AllPairs-rest R x xs pairs = λ i j d less within. pairs (suc i) (suc j) d (omega arith) (omega arith)

-- of the members of a list in order the first one is the first one of each other list with the same members
pub same-first : {X : Type 0} (R : X → X → Type 0) (asym : (x y : X) → R x y → R y x → ⊥) (x y : X) (xs ys : List X) → AllPairs R (x ∷ xs) → AllPairs R (y ∷ ys)
    → Contains (y ∷ ys) x → Contains (x ∷ xs) y → x ≡ y
same-first R asym x y xs ys left right there back = ⊎_elim
    (λ e. sym e)
    (λ in_rest. ⊎_elim
    (λ e. e)
    (λ in_other. absurd (asym x y (All-contains (R x) xs y (AllPairs-first R x xs left) in_other)
    (All-contains (R y) ys x (AllPairs-first R y ys right) in_rest)))
    (Contains-which x xs y back))
    (Contains-which y ys x there)

-- what is in both lists is in the rests, or is the first one
pub in-rest : {X : Type 0} (R : X → X → Type 0) (asym : (x y : X) → R x y → R y x → ⊥) (x y z : X) (xs ys : List X) → AllPairs R (x ∷ xs) → x ≡ y
    → Contains xs z → Contains (y ∷ ys) z → Contains ys z
in-rest R asym x y z xs ys left same among there = ⊎_elim
    (λ e. absurd (let before : R x z = All-contains (R x) xs z (AllPairs-first R x xs left) among in
    let here : R x x = subst (λ w. R x w) (sym (same ∙ e)) before in asym x x here here))
    (λ rest. rest)
    (Contains-which y ys z there)
