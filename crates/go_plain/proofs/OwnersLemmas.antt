-- Lemmas on which entries of a log each session put: how they lie in it, and what others put leaves of them.
use Rattle.std.proofs.Common.{◌≡◌, ◌≢◌, ◌⊎◌, ℕ, zero, suc, ◌+◌, ◌-◌, ◌<◌, ◌≤◌, ◌==◌, if◌then◌else◌, true, false, List, [], ◌∷◌, ◌++◌, length, take, drop, map}
use Rattle.std.proofs.Common.{replicate, slice_get, Some, refl, ap, arith, sym, subst, ◌∙◌, inl, inr, length-append, drop-cons, take_all, zero-add}
use Rattle.std.specs.Prelude.{All, count_by, sum_by}
use Rattle.std.specs.List.{AllByRecursion}
use Rattle.std.proofs.lemmas.Bool.Decides.{eqb_tells, nat_tests}
use Rattle.std.proofs.lemmas.List.{length-take-le, take-take}
use Rattle.std.proofs.lemmas.List.Elements.{All-from_recursion, All-take}
use Rattle.std.proofs.lemmas.List.Sums.{sum_by-cons}
use Rattle.go_word.specs.declared.edge.Edge.{Edge}
use Rattle.go_api.specs.Alone.{positions}
use Rattle.go_api.specs.Laid.{Rises, HasPuts, HasAllPuts, times_owned, Laid, IsWhole}
use Rattle.go_plain.specs.Owners.{owned, put_by, owns_of, puts_of, IsSession, HasOwners}

-- the positions of a session among entries, and then among some more
pub owned-append : (first number : ℕ) (owners more : List ℕ) →
    owned first number (owners ++ more) ≡ owned first number owners ++ owned (first + length owners) number more
owned-append first number [] more = ap (λ (n : ℕ). owned n number more) (omega arith)
owned-append first number (owner ∷ owners) more =
    let rest = owned-append (first + 1) number owners more
    ∙ ap (λ (n : ℕ). owned (first + 1) number owners ++ owned n number more) (omega arith) in
    elim (eqb_tells owner number) [
      | inl h ↦ rw (h.0) (ap (λ (l : List ℕ). first ∷ l) rest)
      | inr h ↦ rw (h.0) rest
    ]

-- the entries of a session, and then some more
pub put_by-append : (number : ℕ) (owners later : List ℕ) (entries more : List Edge) → length owners ≡ length entries →
    put_by number (owners ++ later) (entries ++ more) ≡ put_by number owners entries ++ put_by number later more
put_by-append number [] later [] more long = refl
put_by-append number [] later (e ∷ entries) more long = absurd (omega (arith, long))
put_by-append number (owner ∷ owners) later [] more long = absurd (omega (arith, long))
put_by-append number (owner ∷ owners) later (e ∷ entries) more long =
    let rest = put_by-append number owners later entries more (omega (arith, long)) in
    elim (eqb_tells owner number) [
      | inl h ↦ rw (h.0) (ap (λ (l : List Edge). e ∷ l) rest)
      | inr h ↦ rw (h.0) rest
    ]

-- one entry of a session itself
pub owned_one : (first number : ℕ) → owned first number (number ∷ []) ≡ first ∷ []
owned_one first number = elim (eqb_tells number number) [
  | inl h ↦ rw (h.0) refl
  | inr h ↦ absurd (h.1 refl)
]

pub put_by_one : (number : ℕ) (e : Edge) → put_by number (number ∷ []) (e ∷ []) ≡ e ∷ []
put_by_one number e = elim (eqb_tells number number) [
  | inl h ↦ rw (h.0) refl
  | inr h ↦ absurd (h.1 refl)
]

-- what another session put
pub owned_none : (first number other count : ℕ) → other ≢ number → owned first other (replicate count number) ≡ []
owned_none first number other zero apart = refl
owned_none first number other (suc count) apart = elim (eqb_tells number other) [
  | inl h ↦ absurd (apart (sym h.1))
  | inr h ↦ rw (h.0) (owned_none (first + 1) number other count apart)
]

pub put_by_none : (number other count : ℕ) (entries : List Edge) → other ≢ number → put_by other (replicate count number) entries ≡ []
put_by_none number other zero entries apart = refl
put_by_none number other (suc count) [] apart = refl
put_by_none number other (suc count) (e ∷ entries) apart = elim (eqb_tells number other) [
  | inl h ↦ absurd (apart (sym h.1))
  | inr h ↦ rw (h.0) (put_by_none number other count entries apart)
]

-- positions that rise from a later first one rise from an earlier one
rises_from : (early late : ℕ) (own : List ℕ) → early ≤ late → Rises late own → Rises early own
rises_from early late [] le rises = tt
rises_from early late (p ∷ own) le rises = (omega (arith, le, rises.0), rises.1)

-- the positions of a session rise
pub owned_rises : (first number : ℕ) (owners : List ℕ) → Rises first (owned first number owners)
owned_rises first number [] = tt
owned_rises first number (owner ∷ owners) =
    let rest = owned_rises (first + 1) number owners in
    elim (eqb_tells owner number) [
      | inl h ↦ rw (h.0) (omega arith, rest)
      | inr h ↦ rw (h.0) (rises_from first (first + 1) (owned (first + 1) number owners) (omega arith) rest)
    ]

-- and they are positions of entries
below_all : (first number end : ℕ) (owners : List ℕ) → first + length owners ≤ end → AllByRecursion (λ p. p < end) (owned first number owners)
below_all first number end [] within = tt
below_all first number end (owner ∷ owners) within =
    let rest = below_all (first + 1) number end owners (omega (arith, within)) in
    elim (eqb_tells owner number) [
      | inl h ↦ rw (h.0) (omega (arith, within), rest)
      | inr h ↦ rw (h.0) rest
    ]

pub owned_below : (first number end : ℕ) (owners : List ℕ) → first + length owners ≤ end → All (λ p. p < end) (owned first number owners)
owned_below first number end owners within = All-from_recursion (λ p. p < end) (owned first number owners) (below_all first number end owners within)

-- a session has as many positions as entries
pub length-owned : (first number : ℕ) (owners : List ℕ) (entries : List Edge) → length owners ≡ length entries →
    length (owned first number owners) ≡ length (put_by number owners entries)
length-owned first number [] entries long = refl
length-owned first number (owner ∷ owners) [] long = absurd (omega (arith, long))
length-owned first number (owner ∷ owners) (e ∷ entries) long =
    let rest = length-owned (first + 1) number owners entries (omega (arith, long)) in
    elim (eqb_tells owner number) [
      | inl h ↦ rw (h.0) (ap (λ (n : ℕ). suc n) rest)
      | inr h ↦ rw (h.0) rest
    ]
