-- What stands at a place of a list, after a write and after more were put to its end.
use Rattle.std.proofs.Common.{◌≡◌, ℕ, zero, suc, ◌+◌, ◌<◌, ◌≢◌, ◌⊎◌, Bool, true, false, cond, List, [], ◌∷◌, ◌++◌, length, get_or, set, sym, refl, ap, ◌∙◌}
use Rattle.std.proofs.Common.{inl, inr, ⊎_elim, arith}
use Rattle.std.specs.Prelude.{Contains, Some, find}
use Rattle.std.proofs.lemmas.Bool.{cases_Bool}
use Rattle.std.proofs.lemmas.Option.{same_Some, none-some}
use mathlib.Core.Option.{some, some-injective, some-ne-none}
use lib.ListN.{get_elem?}

module _ {A : Type 0} where
  -- a place with something at it is within the list
  pub lookup-within : (xs : List A) (i : ℕ) (a : A) → get_elem? xs i ≡ some a → i < length xs
  lookup-within [] i a there = absurd (some-ne-none a (sym there))
  lookup-within (x ∷ xs) zero a there = omega arith
  lookup-within (x ∷ xs) (suc i) a there = let rest : i < length xs = lookup-within xs i a there in omega arith

  -- and each place within has something
  pub lookup-some : (xs : List A) (i : ℕ) → i < length xs → (a : A) × (get_elem? xs i ≡ some a)
  lookup-some [] i within = absurd (omega arith)
  lookup-some (x ∷ xs) zero within = (x, refl)
  lookup-some (x ∷ xs) (suc i) within = lookup-some xs i (omega arith)

  -- by the look-up with a default
  pub lookup-get_or : (xs : List A) (i : ℕ) (d : A) → i < length xs → get_elem? xs i ≡ some (get_or xs i d)
  lookup-get_or [] i d within = absurd (omega arith)
  lookup-get_or (x ∷ xs) zero d within = refl
  lookup-get_or (x ∷ xs) (suc i) d within = lookup-get_or xs i d (omega arith)

  pub get_or-lookup : (xs : List A) (i : ℕ) (a d : A) → get_elem? xs i ≡ some a → get_or xs i d ≡ a
  get_or-lookup [] i a d there = absurd (some-ne-none a (sym there))
  get_or-lookup (x ∷ xs) zero a d there = some-injective x a there
  get_or-lookup (x ∷ xs) (suc i) a d there = get_or-lookup xs i a d there

  -- two look-ups at one place give one value
  pub lookup-same : (xs : List A) (i : ℕ) (a b : A) → get_elem? xs i ≡ some a → get_elem? xs i ≡ some b → a ≡ b
  lookup-same xs i a b one two = some-injective a b (sym one ∙ two)

  -- what a write leaves: its value at its place, and all else
  pub lookup-set : (xs : List A) (i j : ℕ) (a b : A) → get_elem? (set xs i a) j ≡ some b → ((j ≡ i) × (a ≡ b)) ⊎ ((j ≢ i) × (get_elem? xs j ≡ some b))
  lookup-set [] i j a b there = absurd (some-ne-none b (sym there))
  lookup-set (x ∷ xs) zero zero a b there = inl (refl, some-injective a b there)
  lookup-set (x ∷ xs) zero (suc j) a b there = inr ((λ e. omega arith), there)
  lookup-set (x ∷ xs) (suc i) zero a b there = inr ((λ e. omega arith), there)
  lookup-set (x ∷ xs) (suc i) (suc j) a b there =
      ⊎_elim (λ here. inl (ap suc here.0, here.1)) (λ other. let ne = other.0 in inr ((λ e. ne (omega arith)), other.1)) (lookup-set xs i j a b there)

  pub lookup-set_here : (xs : List A) (i : ℕ) (a : A) → i < length xs → get_elem? (set xs i a) i ≡ some a
  lookup-set_here [] i a within = absurd (omega arith)
  lookup-set_here (x ∷ xs) zero a within = refl
  lookup-set_here (x ∷ xs) (suc i) a within = lookup-set_here xs i a (omega arith)

  pub lookup-set_other : (xs : List A) (i j : ℕ) (a : A) → j ≢ i → get_elem? (set xs i a) j ≡ get_elem? xs j
  lookup-set_other [] i j a ne = refl
  lookup-set_other (x ∷ xs) zero zero a ne = absurd (ne refl)
  lookup-set_other (x ∷ xs) zero (suc j) a ne = refl
  lookup-set_other (x ∷ xs) (suc i) zero a ne = refl
  lookup-set_other (x ∷ xs) (suc i) (suc j) a ne = lookup-set_other xs i j a (λ e. ne (ap suc e))

  -- what stood in a list stands in a longer one
  pub lookup-longer : (xs more : List A) (i : ℕ) (a : A) → get_elem? xs i ≡ some a → get_elem? (xs ++ more) i ≡ some a
  lookup-longer [] more i a there = absurd (some-ne-none a (sym there))
  lookup-longer (x ∷ xs) more zero a there = there
  lookup-longer (x ∷ xs) more (suc i) a there = lookup-longer xs more i a there

  pub lookup-shorter : (xs more : List A) (i : ℕ) (a : A) → i < length xs → get_elem? (xs ++ more) i ≡ some a → get_elem? xs i ≡ some a
  lookup-shorter [] more i a within there = absurd (omega arith)
  lookup-shorter (x ∷ xs) more zero a within there = there
  lookup-shorter (x ∷ xs) more (suc i) a within there = lookup-shorter xs more i a (omega arith) there

  -- what comes after a list
  pub lookup-after : (xs more : List A) (k : ℕ) → get_elem? (xs ++ more) (length xs + k) ≡ get_elem? more k
  lookup-after [] more k = ap (get_elem? more) (omega arith)
  lookup-after (x ∷ xs) more k =
      let step : suc (length xs) + k ≡ suc (length xs + k) = omega arith in
      ap (get_elem? (x ∷ (xs ++ more))) step ∙ lookup-after xs more k

  pub lookup-last : (xs : List A) (a b : A) (j : ℕ) → get_elem? (xs ++ a ∷ []) j ≡ some b → (get_elem? xs j ≡ some b) ⊎ (a ≡ b)
  lookup-last [] a b zero there = inr (some-injective a b there)
  lookup-last [] a b (suc j) there = absurd (some-ne-none b (sym there))
  lookup-last (x ∷ xs) a b zero there = inl there
  lookup-last (x ∷ xs) a b (suc j) there = lookup-last xs a b j there

  -- what a search finds is in the list, and passes
  pub find-Some : (test : A → Bool) (xs : List A) (a : A) → find test xs ≡ Some a → Contains xs a × (test a ≡ true)
  find-Some test [] a found = absurd (none-some a found)
  find-Some test (x ∷ xs) a found =
      ⊎_elim
      (λ (here : test x ≡ true).
      let is : x ≡ a = same_Some x a (sym (ap (λ b. cond b (Some x) (find test xs)) here) ∙ found) in
      ((0, omega arith, is), ap test (sym is) ∙ here))
      (λ (other : test x ≡ false).
      let rest = find-Some test xs a (sym (ap (λ b. cond b (Some x) (find test xs)) other) ∙ found) in
      ((suc rest.0.0, (let less = rest.0.1 in omega arith), rest.0.2), rest.1)) (cases_Bool (test x))
