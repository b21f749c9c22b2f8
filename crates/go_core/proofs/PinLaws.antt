-- Pins by their names, and lists of pins that are the same.
use Rattle.std.proofs.Common.{◌≡◌, ℕ, zero, suc, ◌<◌, Bool, true, false, cond, List, [], ◌∷◌, ◌++◌, length, get_or, Option, Some, None, refl, ap, ◌∙◌}
use Rattle.std.proofs.Common.{⊎_elim, arith}
use Rattle.std.specs.Prelude.{Contains, find, is_some, ◌==◌, ◌&&◌, ◌||◌}
use Rattle.std.specs.Option.{option_or}
use Rattle.std.proofs.lemmas.Bool.{cases_Bool, false≢true}
use Rattle.std.proofs.lemmas.Bool.Decides.{nat_tests}
use Rattle.std.proofs.lemmas.List.Folds.{find-append}
use lib.Pointwise.{pointwise}
use Rattle.go_word.specs.declared.pin.Pin.{Pin}
use Rattle.go_word.specs.Pins.{is_named, has_name}
use Rattle.go_core.proofs.Lookups.{find-Some}

-- a pin that was found is among them, and has the name
pub named_in : (id : ℕ) (pins : List Pin) (p : Pin) → find (is_named id) pins ≡ Some p → Contains pins p × (p.id ≡ id)
named_in id pins p found =
    let there = find-Some (is_named id) pins p found in
    let is = there.1 in
    (there.0, named p is)
  where
    named : (q : Pin) → is_named id q ≡ true → q.id ≡ id
    named q is = grind (arith, nat_tests)

-- a name is there where its pin is the first, or is in the rest
has-cons : (id : ℕ) (q : Pin) (qs : List Pin) (b : Bool) → is_named id q ≡ b → has_name id (q ∷ qs) ≡ cond b true (has_name id qs)
has-cons id q qs true is = ap (λ b. is_some (cond b (Some q) (find (is_named id) qs))) is
has-cons id q qs false is = ap (λ b. is_some (cond b (Some q) (find (is_named id) qs))) is

-- the name of a pin among them is there
has-within : (pins : List Pin) (p : Pin) (k : ℕ) → k < length pins → get_or pins k p ≡ p → has_name p.id pins ≡ true
has-within [] p k small is = absurd (omega arith)
has-within (q ∷ qs) p zero small is =
    let same : q.id ≡ p.id = ap (λ z. z.id) is in
    let here : is_named p.id q ≡ true = grind (arith, nat_tests) in
    has-cons p.id q qs true here
has-within (q ∷ qs) p (suc k) small is =
    let rest : has_name p.id qs ≡ true = has-within qs p k (omega arith) is in
    ⊎_elim (λ (here : is_named p.id q ≡ true). has-cons p.id q qs true here) (λ (other : is_named p.id q ≡ false). has-cons p.id q qs false other ∙ rest)
    (cases_Bool (is_named p.id q))

pub has-in : (pins : List Pin) (p : Pin) → Contains pins p → has_name p.id pins ≡ true
has-in pins p contained = has-within pins p contained.0 contained.1 contained.2

-- a name that is there is that of a pin
has-found : (id : ℕ) (pins : List Pin) (o : Option Pin) → find (is_named id) pins ≡ o → is_some o ≡ true → (p : Pin) × Contains pins p × (p.id ≡ id)
has-found id pins None found has = absurd (false≢true has)
has-found id pins (Some p) found has = let is = named_in id pins p found in (p, is.0, is.1)

pub has-pin : (id : ℕ) (pins : List Pin) → has_name id pins ≡ true → (p : Pin) × Contains pins p × (p.id ≡ id)
has-pin id pins has = has-found id pins (find (is_named id) pins) refl has

-- the names of two lists
is_some-or : (a b : Option Pin) → is_some (option_or a b) ≡ (is_some a || is_some b)
is_some-or None b = refl
is_some-or (Some p) b = refl

pub has-append : (id : ℕ) (xs ys : List Pin) → has_name id (xs ++ ys) ≡ (has_name id xs || has_name id ys)
has-append id xs ys = ap is_some (find-append (is_named id) xs ys) ∙ is_some-or (find (is_named id) xs) (find (is_named id) ys)

-- two pins are the same by both of their numbers
abbrev pub same_pin : Pin → Pin → Bool
same_pin p q = (p.id == q.id) && (p.front == q.front)

both_true : (a b : Bool) → (a && b) ≡ true → (a ≡ true) × (b ≡ true)
both_true true b is = (refl, is)
both_true false b is = absurd (false≢true is)

pin_is : (p q : Pin) → p.id ≡ q.id → p.front ≡ q.front → p ≡ q
pin_is p q one two = λ k. record { id = one k; front = two k }

same_pin_is : (p q : Pin) → same_pin p q ≡ true → p ≡ q
same_pin_is p q is =
    let both = both_true (p.id == q.id) (p.front == q.front) is in
    let one : p.id ≡ q.id = number p.id q.id both.0 in
    let two : p.front ≡ q.front = number p.front q.front both.1 in
    pin_is p q one two
  where
    number : (a b : ℕ) → (a == b) ≡ true → a ≡ b
    number a b e = grind (arith, nat_tests)

-- a pin is the same as itself
same_pin_itself : (p : Pin) → same_pin p p ≡ true
same_pin_itself p = ap (λ b. b && (p.front == p.front)) (number p.id) ∙ number p.front
  where
    number : (a : ℕ) → (a == a) ≡ true
    number a = grind (arith, nat_tests)

-- lists of pins are the same, pin by pin
pub same_pins : (xs ys : List Pin) → pointwise same_pin xs ys ≡ true → xs ≡ ys
same_pins [] [] is = refl
same_pins [] (y ∷ ys) is = absurd (false≢true is)
same_pins (x ∷ xs) [] is = absurd (false≢true is)
same_pins (x ∷ xs) (y ∷ ys) is =
    let both = both_true (same_pin x y) (pointwise same_pin xs ys) is in
    ap (λ z. z ∷ xs) (same_pin_is x y both.0) ∙ ap (λ zs. y ∷ zs) (same_pins xs ys both.1)

pub pins_same : (xs : List Pin) → pointwise same_pin xs xs ≡ true
pins_same [] = refl
pins_same (x ∷ xs) = ap (λ b. b && pointwise same_pin xs xs) (same_pin_itself x) ∙ pins_same xs
