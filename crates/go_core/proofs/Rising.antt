-- A list of own entries stays in order of position where one is inserted.
use Rattle.std.proofs.Common.{◌≡◌, ℕ, zero, suc, ◌+◌, ◌-◌, ◌<◌, ◌≤◌, ◌≢◌, true, false, List, [], ◌∷◌, ◌++◌, length, get_or, take, drop, reverse, sym, ap}
use Rattle.std.proofs.Common.{◌∙◌, ⊎_elim, arith, subst}
use Rattle.std.specs.Prelude.{All, AllPairs, nat_lt}
use Rattle.std.specs.List.{suffix_len}
use Rattle.std.proofs.Math.Nat.{eq-or-lt_of_le}
use Rattle.std.proofs.lemmas.Bool.{cases_lt}
use Rattle.std.proofs.lemmas.Bool.Decides.{nat_tests}
use Rattle.std.proofs.lemmas.List.{length-reverse, length-take, length-drop, get_or-reverse, get_or-take, get_or-drop, get_or_default, take_all, drop_all}
use Rattle.std.proofs.lemmas.List.Sums.{suffix_len-le-length, prefix_len_passes, prefix_len_stops}
use Rattle.std.proofs.lemmas.List.Elements.{All-cons, All-append, All-weaker, All-head, All-tail}
use Rattle.go_core.specs.declared.entry.Entry.{Entry}
use Rattle.go_core.specs.View.{is_after, before_later, inserted, count_at}
use Rattle.go_core.proofs.Entries.{count_at-Contains}

module _ {A : Type 0} (R : A → A → Type 0) where
  pairs-cons : (x : A) (xs : List A) → All (R x) xs → AllPairs R xs → AllPairs R (x ∷ xs)
  pairs-cons x xs first rest zero zero d less within = absurd (omega arith)
  pairs-cons x xs first rest zero (suc j) d less within = first j d (omega arith)
  pairs-cons x xs first rest (suc i) zero d less within = absurd (omega arith)
  pairs-cons x xs first rest (suc i) (suc j) d less within = rest i j d (omega arith) (omega arith)

  pairs-head : (x : A) (xs : List A) → AllPairs R (x ∷ xs) → All (R x) xs
  pairs-head x xs pairs k d within = pairs 0 (suc k) d (omega arith) (omega arith)

  pairs-tail : (x : A) (xs : List A) → AllPairs R (x ∷ xs) → AllPairs R xs
  pairs-tail x xs pairs i j d less within = pairs (suc i) (suc j) d (omega arith) (omega arith)

  pairs-append : (xs ys : List A) → AllPairs R xs → AllPairs R ys → All (λ x. All (R x) ys) xs → AllPairs R (xs ++ ys)
  pairs-append [] ys left right across = right
  pairs-append (x ∷ xs) ys left right across =
      pairs-cons x (xs ++ ys) (All-append (R x) xs ys (pairs-head x xs left) (All-head (λ z. All (R z) ys) x xs across))
      (pairs-append xs ys (pairs-tail x xs left) right (All-tail (λ z. All (R z) ys) x xs across))

  pairs-take : (n : ℕ) (xs : List A) → AllPairs R xs → AllPairs R (take n xs)
  pairs-take n xs pairs i j d less within =
      let short : j < n = omega (arith, length-take n xs) in
      let inside : j < length xs = omega (arith, length-take n xs) in
      let before : i < n = omega arith in
      let at_i : get_or (take n xs) i d ≡ get_or xs i d = get_or-take n xs i d before in
      let at_j : get_or (take n xs) j d ≡ get_or xs j d = get_or-take n xs j d short in
      rw (at_i, at_j) (pairs i j d less inside)

  pairs-drop : (n : ℕ) (xs : List A) → AllPairs R xs → AllPairs R (drop n xs)
  pairs-drop n xs pairs i j d less within =
      let inside : n + j < length xs = omega (arith, length-drop n xs) in
      rw (get_or-drop n xs i d, get_or-drop n xs j d) (pairs (n + i) (n + j) d (omega arith) inside)

-- entries before and after a position
abbrev Before : ℕ → Entry → Type 0
Before p x = x.at < p

abbrev After : ℕ → Entry → Type 0
After p x = p < x.at

-- those at the end that come after a position do so
after_later : (p : ℕ) (xs : List Entry) → All (After p) (drop (before_later p xs) xs)
after_later p xs j d within =
    let s = suffix_len (is_after p) xs in
    let short : s ≤ length xs = suffix_len-le-length (is_after p) xs in
    let k = before_later p xs in
    let inside : k + j < length xs = omega (arith, length-drop k xs) in
    let back : ℕ = length xs - 1 - (k + j) in
    let few : back < s = omega arith in
    let passes : is_after p (get_or (reverse xs) back d) ≡ true = prefix_len_passes (is_after p) (reverse xs) back d few in
    let turned : get_or (reverse xs) back d ≡ get_or xs (length xs - 1 - back) d = get_or-reverse xs back d (omega arith) in
    let place : length xs - 1 - back ≡ k + j = omega arith in
    let there : is_after p (get_or xs (k + j) d) ≡ true = ap (λ n. is_after p (get_or xs n d)) (sym place) ∙ ap (is_after p) (sym turned) ∙ passes in
    let later : p < (get_or xs (k + j) d).at = lt_of_test p (get_or xs (k + j) d).at there in
    subst (λ z. After p z) (sym (get_or-drop k xs j d)) later
  where
    lt_of_test : (a b : ℕ) → nat_lt a b ≡ true → a < b
    lt_of_test a b test = grind (arith, nat_tests)

-- and in a list in order, which has nothing at the position, the others come before it
before_others : (p : ℕ) (xs : List Entry) → AllPairs (λ x y. x.at < y.at) xs → All (λ x. x.at ≢ p) xs → All (Before p) (take (before_later p xs) xs)
before_others p xs rising none i d within =
    let s = suffix_len (is_after p) xs in
    let k = before_later p xs in
    let small : i < k = omega (arith, length-take k xs) in
    let last : ℕ = length xs - 1 - s in
    let inside : last < length xs = omega arith in
    let turned : get_or (reverse xs) s d ≡ get_or xs last d = get_or-reverse xs s d (omega arith) in
    let stops : is_after p (get_or (reverse xs) s d) ≡ false = prefix_len_stops (is_after p) (reverse xs) d (omega (arith, length-reverse xs)) in
    let fails : is_after p (get_or xs last d) ≡ false = ap (is_after p) (sym turned) ∙ stops in
    let up_to : (get_or xs last d).at ≤ p = le_of_test p (get_or xs last d).at fails in
    let other : (get_or xs last d).at ≢ p = none last d inside in
    let whole : (get_or xs i d).at < p =
    ⊎_elim (λ (here : i ≡ last). below (get_or xs i d).at (get_or xs last d).at p (ap (λ n. (get_or xs n d).at) here) up_to other)
    (λ (less : i < last).
    let step : (get_or xs i d).at < (get_or xs last d).at = rising i last d less inside in
    omega arith)
    (eq-or-lt_of_le (le_of_small i last (omega arith)))
    in
    subst (λ z. Before p z) (sym (get_or-take k xs i d small)) whole
  where
    le_of_test : (a b : ℕ) → nat_lt a b ≡ false → b ≤ a
    le_of_test a b test = grind (arith, nat_tests)

    le_of_small : (i last : ℕ) → i ≤ last → i ≤ last
    le_of_small i last h = h

    below : (a b p : ℕ) → a ≡ b → b ≤ p → b ≢ p → a < p
    below a b p e le ne = omega arith

-- a list that has no entry at a position
none_at : (p : ℕ) (xs : List Entry) → count_at p xs ≡ 0 → All (λ x. x.at ≢ p) xs
none_at p xs none k d within same =
    let x : Entry = get_or xs k d in
    let found : 0 < count_at x.at xs = count_at-Contains xs x (k, within, get_or_default xs k x d within) in
    let here : count_at x.at xs ≡ count_at p xs = ap (λ q. count_at q xs) same in
    absurd (omega arith)

-- an entry inserted leaves the list in order
pub rising-inserted : (x : Entry) (xs : List Entry) → count_at x.at xs ≡ 0 → AllPairs (λ a b. a.at < b.at) xs → AllPairs (λ a b. a.at < b.at) (inserted x xs)
rising-inserted x xs none rising =
    let p = x.at in
    let k = before_later p xs in
    let R : Entry → Entry → Type 0 = λ a b. a.at < b.at in
    let after : All (After p) (drop k xs) = after_later p xs in
    let before : All (Before p) (take k xs) = before_others p xs rising (none_at p xs none) in
    pairs-append R (take k xs) (x ∷ drop k xs) (pairs-take R k xs rising) (pairs-cons R x (drop k xs) after (pairs-drop R k xs rising))
    (All-weaker (Before p) (λ a. All (R a) (x ∷ drop k xs))
    (λ a less. All-cons (R a) x (drop k xs) less (All-weaker (After p) (R a) (λ b more. lt_trans a.at p b.at less more) (drop k xs) after)) (take k xs) before)
  where
    lt_trans : (a b c : ℕ) → a < b → b < c → a < c
    lt_trans a b c one two = omega arith

-- an entry past all others is inserted behind them
pub inserted-last : (x : Entry) (xs : List Entry) → All (λ y. y.at < x.at) xs → inserted x xs ≡ xs ++ x ∷ []
inserted-last x xs before =
    let k = before_later x.at xs in
    let whole : length xs ≤ k =
    ⊎_elim
    (λ (less : k < length xs).
    let low : (get_or xs k x).at < x.at = before k x less in
    let high : x.at < (get_or (drop k xs) 0 x).at = after_later x.at xs 0 x (omega (arith, length-drop k xs)) in
    let step : k + 0 ≡ k = omega arith in
    let same : (get_or (drop k xs) 0 x).at ≡ (get_or xs k x).at = ap (λ (y : Entry). y.at) (get_or-drop k xs 0 x ∙ ap (λ n. get_or xs n x) step) in
    absurd (omega arith))
    (λ over. over) (cases_lt k (length xs))
    in
    ap (λ ys. ys ++ x ∷ drop k xs) (take_all k xs whole) ∙ ap (λ ys. xs ++ x ∷ ys) (drop_all k xs whole)
