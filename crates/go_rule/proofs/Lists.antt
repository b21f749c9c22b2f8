-- Look-ups in lists, and lists that are looked at place by place.
use Rattle.std.proofs.Common.{◌≡◌, ◌≢◌, ◌⊎◌, ℕ, zero, suc, ◌<◌, Bool, true, false, cond, List, [], ◌∷◌, map, length, take, drop, set, get_or, sym, refl}
use Rattle.std.proofs.Common.{ap, ◌∙◌, inl, inr, ⊎_elim, arith, subst}
use Rattle.std.specs.Prelude.{All, Some, IsSome, slice_get, slice_index, filter, find, is_some, sum_by, ◌==◌, Option as Maybe}
use Rattle.std.proofs.lemmas.Bool.{cases_Bool, true≢false}
use Rattle.std.proofs.lemmas.List.Sums.{sum_by-cons}
use Rattle.std.proofs.lemmas.Option.{none-some, same_Some}
use Rattle.std.proofs.lemmas.Bool.Decides.{nat_tests}
use Rattle.std.proofs.lemmas.List.Elements.{All-nil, All-cons, All-head, All-tail}
use mathlib.Core.Option.{some, some-injective, some-ne-none}
use lib.ListN.{get_elem?}

-- what stands in a list stands among its first so many
pub lookup_take : {A : Type 0} (n : ℕ) (xs : List A) (k : ℕ) (x : A) → k < n → get_elem? xs k ≡ some x → get_elem? (take n xs) k ≡ some x
lookup_take n [] k x less there = absurd (some-ne-none x (sym there))
lookup_take zero (y ∷ ys) k x less there = absurd (omega arith)
lookup_take (suc n) (y ∷ ys) zero x less there = there
lookup_take (suc n) (y ∷ ys) (suc k) x less there = lookup_take n ys k x (omega arith) there

-- what stands in a list stands within it
pub get_within : {A : Type 0} (xs : List A) (k : ℕ) (x : A) → slice_get xs k ≡ Some x → k < length xs
get_within [] k x there = absurd (none-some x there)
get_within (y ∷ ys) zero x there = omega arith
get_within (y ∷ ys) (suc k) x there = let rest = get_within ys k x there in omega arith

-- and at each place within it something stands
pub get_there : {A : Type 0} (xs : List A) (k : ℕ) → k < length xs → (x : A) × (slice_get xs k ≡ Some x)
get_there [] k less = absurd (omega arith)
get_there (y ∷ ys) zero less = (y, refl)
get_there (y ∷ ys) (suc k) less = get_there ys k (omega arith)

-- what holds of each that is left where some pass, holds of the first that passes, and of what is left of the rest
left_first : {A B : Type 0} (Q : B → Type 0) (f : A → B) (x : A) (rest : List A) (b : Bool) → b ≡ true → All Q (map f (cond b (x ∷ rest) rest)) → Q (f x)
left_first Q f x rest true is all = All-head Q (f x) (map f rest) all
left_first Q f x rest false is all = absurd (cc)

left_rest : {A B : Type 0} (Q : B → Type 0) (f : A → B) (x : A) (rest : List A) (b : Bool) → All Q (map f (cond b (x ∷ rest) rest)) → All Q (map f rest)
left_rest Q f x rest true all = All-tail Q (f x) (map f rest) all
left_rest Q f x rest false all = all

-- what holds of each of a list, looked at place by place, holds of each of it
pub all_places : {A B : Type 0} (Q : ℕ → B → Type 0) (place : A → ℕ) (f : A → B) (xs : List A) → ((k : ℕ) → All (Q k) (map f (filter (λ x. place x == k) xs)))
    → All (λ x. Q (place x) (f x)) xs
all_places Q place f [] each = All-nil (λ x. Q (place x) (f x))
all_places Q place f (x ∷ xs) each =
    All-cons (λ z. Q (place z) (f z)) x xs (left_first (Q (place x)) f x (filter (λ z. place z == place x) xs)
    (place x == place x) (same (place x)) (each (place x)))
    (all_places Q place f xs (λ k. left_rest (Q k) f x (filter (λ z. place z == k) xs) (place x == k) (each k)))
  where
    same : (k : ℕ) → (k == k) ≡ true
    same k = grind (arith, nat_tests)

-- what stands in a list of one is that one
pub only : {A : Type 0} (x y : A) (i : ℕ) → get_elem? (x ∷ []) i ≡ some y → x ≡ y
only x y zero there = some-injective x y there
only x y (suc i) there = absurd (some-ne-none y (sym there))

-- a sum over one
pub sum_one : {A : Type 0} (f : A → ℕ) (x : A) → sum_by f (x ∷ []) ≡ f x
sum_one f x = omega (arith, sum_by-cons f x [])

-- a list that has just these, each wrapped, at its places
pub all_there : {A B : Type 0} (f : A → B) (xs : List A) (ys : List B) → length ys ≡ length xs
    → ((k : ℕ) (x : A) → slice_get xs k ≡ Some x → get_elem? ys k ≡ some (f x)) → ys ≡ map f xs
all_there f [] [] long each = refl
all_there f [] (y ∷ ys) long each = absurd (omega arith)
all_there f (x ∷ xs) [] long each = absurd (omega arith)
all_there f (x ∷ xs) (y ∷ ys) long each =
    let first : y ≡ f x = some-injective y (f x) (each 0 x refl) in
    let rest : ys ≡ map f xs = all_there f xs ys (omega arith) (λ k z there. each (suc k) z there) in
    ap (λ z. z ∷ ys) first ∙ ap (λ zs. f x ∷ zs) rest

-- what stands in a list of wrapped ones is one of these
pub is_wrapped : {A : Type 0} (xs : List A) (k : ℕ) (y : Maybe A) → get_elem? (map Some xs) k ≡ some y → IsSome y
is_wrapped [] k y there = absurd (some-ne-none y (sym there))
is_wrapped (x ∷ xs) zero y there = subst IsSome (some-injective (Some x) y there) refl
is_wrapped (x ∷ xs) (suc k) y there = is_wrapped xs k y there

-- two lists that are the same wrapped are the same
pub wrapped_same : {A : Type 0} (xs ys : List A) → map Some xs ≡ map Some ys → xs ≡ ys
wrapped_same [] [] same = refl
wrapped_same [] (y ∷ ys) same = absurd (let long = ap length same in omega arith)
wrapped_same (x ∷ xs) [] same = absurd (let long = ap length same in omega arith)
wrapped_same (x ∷ xs) (y ∷ ys) same =
    let first : x ≡ y = same_Some x y (some-injective (Some x) (Some y) (ap (λ zs. get_elem? zs 0) same)) in
    let rest : xs ≡ ys = wrapped_same xs ys (ap (drop 1) same) in
    ap (λ z. z ∷ xs) first ∙ ap (λ zs. y ∷ zs) rest

-- what stands at an index of a list of numbers
pub index_is : (xs : List ℕ) (k n : ℕ) → get_elem? xs k ≡ some n → slice_index xs k ≡ n
index_is [] k n there = absurd (some-ne-none n (sym there))
index_is (x ∷ xs) zero n there = some-injective x n there
index_is (x ∷ xs) (suc k) n there = index_is xs k n there

-- what a write to a list leaves
pub get_set : {A : Type 0} (xs : List A) (i j : ℕ) (a b : A) → slice_get (set xs i a) j ≡ Some b → ((j ≡ i) × (a ≡ b)) ⊎ ((j ≢ i) × (slice_get xs j ≡ Some b))
get_set [] i j a b there = absurd (none-some b there)
get_set (x ∷ xs) zero zero a b there = inl (refl, same_Some a b there)
get_set (x ∷ xs) zero (suc j) a b there = inr ((λ e. omega arith), there)
get_set (x ∷ xs) (suc i) zero a b there = inr ((λ e. omega arith), there)
get_set (x ∷ xs) (suc i) (suc j) a b there =
    ⊎_elim (λ here. inl (ap suc here.0, here.1)) (λ other. let ne = other.0 in inr ((λ e. ne (omega arith)), other.1)) (get_set xs i j a b there)

-- and what stands elsewhere stays
pub get_set_other : {A : Type 0} (xs : List A) (i j : ℕ) (a : A) → j ≢ i → slice_get (set xs i a) j ≡ slice_get xs j
get_set_other [] i j a ne = refl
get_set_other (x ∷ xs) zero zero a ne = absurd (ne refl)
get_set_other (x ∷ xs) zero (suc j) a ne = refl
get_set_other (x ∷ xs) (suc i) zero a ne = refl
get_set_other (x ∷ xs) (suc i) (suc j) a ne = get_set_other xs i j a (λ e. ne (ap suc e))

-- a number is itself, and not another
pub same_number : (k : ℕ) → (k == k) ≡ true
same_number k = grind (arith, nat_tests)

pub is_number : (a b : ℕ) → (a == b) ≡ true → a ≡ b
is_number a b is = grind (arith, nat_tests)

pub other_number : (a b : ℕ) → a ≢ b → (a == b) ≡ false
other_number a b ne = ⊎_elim (λ is. absurd (ne (is_number a b is))) (λ none. none) (cases_Bool (a == b))

-- where nothing is found, nothing passes
pub none_passes : {A : Type 0} (test : A → Bool) (xs : List A) → is_some (find test xs) ≡ false → All (λ x. test x ≡ false) xs
none_passes test [] none = All-nil (λ x. test x ≡ false)
none_passes test (x ∷ xs) none =
    ⊎_elim (λ (here : test x ≡ true). absurd (true≢false (sym (ap (λ b. is_some (cond b (Some x) (find test xs))) here) ∙ none)))
    (λ (other : test x ≡ false).
    All-cons (λ z. test z ≡ false) x xs other (none_passes test xs (sym (ap (λ b. is_some (cond b (Some x) (find test xs))) other) ∙ none)))
    (cases_Bool (test x))

-- two facts of each give a third
pub all_both : {A : Type 0} (P Q R : A → Type 0) → ((x : A) → P x → Q x → R x) → (xs : List A) → All P xs → All Q xs → All R xs
all_both P Q R both xs one two k d within = both (get_or xs k d) (one k d within) (two k d within)
