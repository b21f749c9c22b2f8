-- Which pins of a shard are a seat's own, where the shard has all that the seat had.
use Rattle.std.proofs.Common.{◌≡◌, ◌↔◌, suc, Bool, true, false, cond, List, [], ◌∷◌, sym, refl, ap, ◌∙◌, ⊎_elim, arith, subst}
use Rattle.std.specs.Prelude.{All, Contains, find, filter, not, ◌||◌, Some}
use Rattle.std.proofs.lemmas.Bool.{or_cases, false≢true}
use Rattle.std.proofs.lemmas.Option.{same_Some}
use Rattle.std.proofs.lemmas.List.Elements.{All-nil, All-cons, All-weaker, All-contains, All-contains_itself, All-filter, filter_passes}
use Rattle.go_word.specs.declared.pin.Pin.{Pin}
use Rattle.go_word.specs.Pins.{is_named, has_name}
use Rattle.go_core.specs.Parts.{AreNamed}
use Rattle.go_core.specs.Pins.{owns_name, is_own_or_new}
use Rattle.go_core.proofs.PinCalls.{all_found}
use Rattle.go_core.proofs.PinLaws.{has-in, has-pin}

-- what passes a test is what stands in the list and passes
module _ {A : Type 0} (test : A → Bool) where
  pub passing : (xs : List A) (x : A) → Contains (filter test xs) x → Contains xs x × (test x ≡ true)
  passing xs x there = (
    All-contains (Contains xs) (filter test xs) x (All-filter test (Contains xs) xs (All-contains_itself xs)) there,
    All-contains (λ y. test y ≡ true) (filter test xs) x (filter_passes test xs) there,
  )

  -- and each that does is left
  kept_first : (b : Bool) (x : A) (xs : List A) → b ≡ true → Contains (cond b (x ∷ xs) xs) x
  kept_first true x xs is = (0, omega arith, refl)
  kept_first false x xs is = absurd (false≢true is)

  kept_later : (b : Bool) (y x : A) (xs : List A) → Contains xs x → Contains (cond b (y ∷ xs) xs) x
  kept_later true y x xs there = let within = there.1 in (suc there.0, omega arith, there.2)
  kept_later false y x xs there = there

  all_left : (xs : List A) → All (λ x. test x ≡ true → Contains (filter test xs) x) xs
  all_left [] = All-nil (λ x. test x ≡ true → Contains [] x)
  all_left (y ∷ ys) =
      All-cons (λ x. test x ≡ true → Contains (filter test (y ∷ ys)) x) y ys (λ passes. kept_first (test y) y (filter test ys) passes)
      (All-weaker (λ x. test x ≡ true → Contains (filter test ys) x) (λ x. test x ≡ true → Contains (filter test (y ∷ ys)) x)
      (λ x left passes. kept_later (test y) y x (filter test ys) (left passes)) ys (all_left ys))

  pub left : (xs : List A) (x : A) → Contains xs x → test x ≡ true → Contains (filter test xs) x
  left xs x there = All-contains (λ y. test y ≡ true → Contains (filter test xs) y) xs x (all_left xs) there

-- the pins of a shard that are a seat's, by their names, are those that it had, where the shard has all of these
pub own_unchanged : (mine old : List Pin) → AreNamed old → All (Contains old) mine → (pin : Pin)
    → Contains (filter (is_own_or_new mine [] old) old) pin ↔ Contains mine pin
own_unchanged mine old names has pin = (out, into)
  where
    found : (p : Pin) → Contains old p → find (is_named p.id) old ≡ Some p
    found p there = All-contains (λ q. find (is_named q.id) old ≡ Some q) old p (all_found old names) there

    out : Contains (filter (is_own_or_new mine [] old) old) pin → Contains mine pin
    out there =
        let both = passing (is_own_or_new mine [] old) old pin there in
        let known : has_name pin.id old ≡ true = has-in old pin both.0 in
        let own : has_name pin.id mine ≡ true =
        ⊎_elim (λ (owned : owns_name pin.id mine [] ≡ true). ⊎_elim (λ is. is) (λ none. absurd (false≢true none)) (or_cases (has_name pin.id mine) false owned))
        (λ (new : not (has_name pin.id old) ≡ true). absurd (false≢true (sym (ap not known) ∙ new)))
        (or_cases (owns_name pin.id mine []) (not (has_name pin.id old)) both.1)
        in
        let one = has-pin pin.id mine own in
        let named : find (is_named one.0.id) old ≡ Some one.0 = found one.0 (All-contains (Contains old) mine one.0 has one.1) in
        let same : one.0 ≡ pin = same_Some one.0 pin (sym named ∙ ap (λ n. find (is_named n) old) one.2 ∙ found pin both.0) in
        subst (Contains mine) same one.1

    into : Contains mine pin → Contains (filter (is_own_or_new mine [] old) old) pin
    into there =
        let here = All-contains (Contains old) mine pin has there in
        let own : is_own_or_new mine [] old pin ≡ true = ap (λ b. (b || false) || not (has_name pin.id old)) (has-in mine pin there) in
        left (is_own_or_new mine [] old) old pin here own
