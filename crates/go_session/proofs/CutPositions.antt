-- Rising positions below a number, and elements of first and later ones.
use Rattle.std.proofs.Common.{◌≡◌, ℕ, zero, suc, ◌+◌, ◌<◌, ◌≤◌, List, [], ◌∷◌, length, take, filter, slice_get}
use Rattle.std.proofs.Common.{drop, Option, Some, None, refl, ap, arith, inl, inr, subst}
use Rattle.std.specs.Prelude.{nat_lt}
use Rattle.std.proofs.lemmas.Bool.Decides.{leb_tells}
use Rattle.std.proofs.lemmas.Option.{slice_get_within}
use Rattle.go_api.specs.Calls.{last_of}
use Rattle.go_api.specs.Laid.{Rises}

-- rising positions are at or above the first
pub rises_from : (first : ℕ) (own : List ℕ) (k p : ℕ) → Rises first own → slice_get own k ≡ Some p → first ≤ p
rises_from first [] k p rises here = absurd (omega (arith, slice_get_within [] k p here))
rises_from first (x ∷ own) zero p rises here = let same : x ≡ p = (let h : Some x ≡ Some p = here in cc) in omega (arith, same, rises.0)
rises_from first (x ∷ own) (suc k) p rises here = omega (arith, rises.0, rises_from (x + 1) own k p rises.1 here)

-- and a later one is no less
pub rises_order : (first : ℕ) (own : List ℕ) (j k p q : ℕ) → Rises first own → j ≤ k → slice_get own j ≡ Some p → slice_get own k ≡ Some q → p ≤ q
rises_order first [] j k p q rises order here there = absurd (omega (arith, slice_get_within [] j p here))
rises_order first (x ∷ own) zero zero p q rises order here there =
    let one : x ≡ p = (let h : Some x ≡ Some p = here in cc) in
    let two : x ≡ q = (let h : Some x ≡ Some q = there in cc) in
    omega (arith, one, two)
rises_order first (x ∷ own) zero (suc k) p q rises order here there =
    let one : x ≡ p = (let h : Some x ≡ Some p = here in cc) in
    omega (arith, one, rises_from (x + 1) own k q rises.1 there)
rises_order first (x ∷ own) (suc j) zero p q rises order here there = absurd (omega (arith, order))
rises_order first (x ∷ own) (suc j) (suc k) p q rises order here there = rises_order (x + 1) own j k p q rises.1 (omega (arith, order)) here there

-- of rising positions none is below a number that the first isn't below
none_below : (n first : ℕ) (own : List ℕ) → n ≤ first → Rises first own → filter (λ p. nat_lt p n) own ≡ []
none_below n first [] above rises = refl
none_below n first (x ∷ own) above rises =
    let begins : first ≤ x = rises.0 in
    elim (leb_tells (suc x) n) [
      | inl h ↦ absurd (let below = h.1 in omega arith)
      | inr h ↦ rw h.0 (none_below n (x + 1) own (omega arith) rises.1)
    ]

-- those below a number are the first ones
pub below_first : (n first : ℕ) (own : List ℕ) → Rises first own → filter (λ p. nat_lt p n) own ≡ take (length (filter (λ p. nat_lt p n) own)) own
below_first n first [] rises = refl
below_first n first (x ∷ own) rises =
    elim (leb_tells (suc x) n) [
      | inl h ↦ rw h.0 (ap (λ (l : List ℕ). x ∷ l) (below_first n (x + 1) own rises.1))
      | inr h ↦ let above = h.1 in rw (h.0, none_below n (x + 1) own (omega arith) rises.1) refl
    ]

-- each that is below it is among them, at its place
pub below_get : (n first : ℕ) (own : List ℕ) (k p : ℕ) → Rises first own → slice_get own k ≡ Some p → p < n →
    slice_get (filter (λ q. nat_lt q n) own) k ≡ Some p
below_get n first [] k p rises here below = absurd (omega (arith, slice_get_within [] k p here))
below_get n first (x ∷ own) zero p rises here below =
    let same : x ≡ p = (let h : Some x ≡ Some p = here in cc) in
    elim (leb_tells (suc x) n) [
      | inl h ↦ rw h.0 here
      | inr h ↦ absurd (let above = h.1 in omega arith)
    ]
below_get n first (x ∷ own) (suc k) p rises here below =
    let later : x + 1 ≤ p = rises_from (x + 1) own k p rises.1 here in
    elim (leb_tells (suc x) n) [
      | inl h ↦ rw h.0 (below_get n (x + 1) own k p rises.1 here below)
      | inr h ↦ absurd (let above = h.1 in omega arith)
    ]

-- an element of the first ones, and one behind some
pub get_taken : (count k x : ℕ) (xs : List ℕ) → slice_get (take count xs) k ≡ Some x → slice_get xs k ≡ Some x
get_taken zero k x xs here = absurd (omega (arith, slice_get_within (take 0 xs) k x here))
get_taken (suc count) k x [] here = here
get_taken (suc count) zero x (y ∷ xs) here = here
get_taken (suc count) (suc k) x (y ∷ xs) here = get_taken count k x xs here

pub get_dropped : (used k x : ℕ) (xs : List ℕ) → slice_get (drop used xs) k ≡ Some x → slice_get xs (used + k) ≡ Some x
get_dropped zero k x xs here = let e : k ≡ zero + k = omega arith in subst (λ (i : ℕ). slice_get xs i ≡ Some x) e here
get_dropped (suc used) k x [] here = absurd (omega (arith, slice_get_within [] k x here))
get_dropped (suc used) k x (y ∷ xs) here =
    let e : suc (used + k) ≡ suc used + k = omega arith in
    subst (λ (i : ℕ). slice_get (y ∷ xs) i ≡ Some x) e (get_dropped used k x xs here)

-- the last of some positions is at their end
pub last_get : (positions : List ℕ) (last k : ℕ) → k + 1 ≡ length positions → last_of positions ≡ Some last → slice_get positions k ≡ Some last
last_get [] last k end is = absurd (omega (arith, end))
last_get (p ∷ []) last zero end is = is
last_get (p ∷ []) last (suc k) end is = absurd (omega (arith, end))
last_get (p ∷ (q ∷ more)) last zero end is = absurd (omega (arith, end))
last_get (p ∷ (q ∷ more)) last (suc k) end is = last_get (q ∷ more) last k (omega (arith, end)) is

-- the last of some positions, if there is one, is below a number
abbrev pub KeepsLast : ℕ → Option ℕ → Type 0
KeepsLast n None = Unit {0}
KeepsLast n (Some last) = last < n

-- of some positions one is the last
pub last_there : (p : ℕ) (more : List ℕ) → last_of (p ∷ more) ≡ None → ⊥
last_there p [] none = cc
last_there p (q ∷ more) none = last_there q more none
