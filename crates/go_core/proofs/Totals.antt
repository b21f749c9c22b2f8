-- Sums over the views, and conditions that count in them: a write of one view, a term of the sum, and two of them.
use Rattle.std.proofs.Common.{◌≡◌, ℕ, zero, suc, ◌+◌, ◌≤◌, ◌≢◌, Bool, cond, List, [], ◌∷◌, set, sym, refl, ap, arith}
use Rattle.std.specs.Prelude.{sum_by}
use Rattle.std.proofs.lemmas.List.Sums.{sum_by-cons}
use mathlib.Core.Option.{some, some-injective, some-ne-none}
use lib.ListN.{get_elem?}

-- a condition counts once or not at all
abbrev pub bit_of : Bool → ℕ
bit_of b = cond b 1 0

module _ {A : Type 0} (f : A → ℕ) where
  -- a write changes the sum by what it changes of its term
  pub total-set : (xs : List A) (i : ℕ) (a b : A) → get_elem? xs i ≡ some a → sum_by f (set xs i b) + f a ≡ sum_by f xs + f b
  total-set [] i a b there = absurd (some-ne-none a (sym there))
  total-set (x ∷ xs) zero a b there =
      let same : f x ≡ f a = ap f (some-injective x a there) in
      omega (arith, sum_by-cons f b xs, sum_by-cons f x xs)
  total-set (x ∷ xs) (suc i) a b there =
      let rest : sum_by f (set xs i b) + f a ≡ sum_by f xs + f b = total-set xs i a b there in
      omega (arith, sum_by-cons f x (set xs i b), sum_by-cons f x xs)

  -- each term is within the sum
  pub term-le : (xs : List A) (i : ℕ) (a : A) → get_elem? xs i ≡ some a → f a ≤ sum_by f xs
  term-le [] i a there = absurd (some-ne-none a (sym there))
  term-le (x ∷ xs) zero a there = let same : f x ≡ f a = ap f (some-injective x a there) in omega (arith, sum_by-cons f x xs)
  term-le (x ∷ xs) (suc i) a there = let rest : f a ≤ sum_by f xs = term-le xs i a there in omega (arith, sum_by-cons f x xs)

  -- and so are two at different places
  pub terms-le : (xs : List A) (i j : ℕ) (a b : A) → j ≢ i → get_elem? xs i ≡ some a → get_elem? xs j ≡ some b → f a + f b ≤ sum_by f xs
  terms-le [] i j a b ne there other = absurd (some-ne-none a (sym there))
  terms-le (x ∷ xs) zero zero a b ne there other = absurd (ne refl)
  terms-le (x ∷ xs) zero (suc j) a b ne there other =
      let same : f x ≡ f a = ap f (some-injective x a there) in
      let rest : f b ≤ sum_by f xs = term-le xs j b other in
      omega (arith, sum_by-cons f x xs)
  terms-le (x ∷ xs) (suc i) zero a b ne there other =
      let same : f x ≡ f b = ap f (some-injective x b other) in
      let rest : f a ≤ sum_by f xs = term-le xs i a there in
      omega (arith, sum_by-cons f x xs)
  terms-le (x ∷ xs) (suc i) (suc j) a b ne there other =
      let rest : f a + f b ≤ sum_by f xs = terms-le xs i j a b (λ e. ne (ap suc e)) there other in
      omega (arith, sum_by-cons f x xs)
