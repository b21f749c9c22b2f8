-- Lemmas on the places of a session, and the views that stand there.
use Rattle.std.proofs.Common.{◌≡◌, ◌⊎◌, ℕ, zero, suc, ◌+◌, ◌<◌, ◌≤◌, List, [], ◌∷◌, ◌++◌, length}
use Rattle.std.proofs.Common.{take, set, get_or, slice_get, Some, refl, ap, arith, sym, subst, ◌∙◌, inl, inr}
use Rattle.std.specs.Prelude.{All, Contains}
use Rattle.std.proofs.Math.ListN.{get_or-eq_default}
use Rattle.std.proofs.lemmas.Bool.Decides.{leb_tells}
use Rattle.std.proofs.lemmas.List.{append_assoc, take_more}
use Rattle.std.proofs.lemmas.List.Elements.{All-set}
use Rattle.std.proofs.lemmas.Option.{slice_get_within, get_or_from_slice_get}
use Rattle.go_api.specs.Standing.{ShowsUpTo}
use Rattle.go_api.specs.declared.place.TheConstants.{PLACES}
use Rattle.go_api.specs.declared.place.Place.{Place}
use Rattle.go_api.specs.declared.place.Place.TheVariants.{Free, View, Stream}
use Rattle.go_plain.specs.Views.{views_of}

-- what a place shows is there later too
pub shows_longer : (short long : ℕ) (place : Place) → short ≤ long → ShowsUpTo short place → ShowsUpTo long place
shows_longer short long Free longer shows = tt
shows_longer short long (View front) longer shows = omega (arith, longer, shows)
shows_longer short long (Stream cursor) longer shows = omega (arith, longer, shows)

-- an element of a list is its first one or among the others
contains_cons : (x n : ℕ) (xs : List ℕ) → Contains (x ∷ xs) n → (x ≡ n) ⊎ Contains xs n
contains_cons x n xs (zero, within, is) = inl is
contains_cons x n xs (suc k, within, is) = inr (k, omega (arith, within), is)

contains_later : (x n : ℕ) (xs : List ℕ) → Contains xs n → Contains (x ∷ xs) n
contains_later x n xs there = (suc there.0, omega (arith, there.1), there.2)

-- one place more in front
pub views_cons : (p : Place) (places : List Place) (n : ℕ) → Contains (views_of places) n → Contains (views_of (p ∷ places)) n
views_cons Free places n there = there
views_cons (Stream cursor) places n there = there
views_cons (View front) places n there = contains_later front n (views_of places) there

-- the views at places, one of which holds something else
pub views_set : (places : List Place) (k : ℕ) (held : Place) (n : ℕ) → Contains (views_of (set places k held)) n →
    (held ≡ View n) ⊎ Contains (views_of places) n
views_set [] k held n there = inr there
views_set (p ∷ places) zero Free n there = inr (views_cons p places n there)
views_set (p ∷ places) zero (Stream cursor) n there = inr (views_cons p places n there)
views_set (p ∷ places) zero (View front) n there =
    elim (contains_cons front n (views_of places) there) as (λ _. (View front ≡ View n) ⊎ Contains (views_of (p ∷ places)) n) [
      | inl is ↦ inl (ap (λ (m : ℕ). View m) is)
      | inr later ↦ inr (views_cons p places n later)
    ]
views_set (Free ∷ places) (suc k) held n there = views_set places k held n there
views_set (Stream cursor ∷ places) (suc k) held n there = views_set places k held n there
views_set (View other ∷ places) (suc k) held n there = elim (contains_cons other n (views_of (set places k held)) there) as (λ _. (held ≡ View n)
    ⊎ Contains (other ∷ views_of places) n) [
      | inl is ↦ inr (zero, omega arith, is)
      | inr later ↦ elim (views_set places k held n later) as (λ _. (held ≡ View n) ⊎ Contains (other ∷ views_of places) n) [
        | inl is ↦ inl is
        | inr there_too ↦ inr (contains_later other n (views_of places) there_too)
      ]
    ]

-- a place that holds a view is one of the views
pub view_there : (places : List Place) (k front : ℕ) → slice_get places k ≡ Some (View front) → Contains (views_of places) front
view_there [] k front held = absurd (omega (arith, slice_get_within [] k (View front) held))
view_there (p ∷ places) zero front held =
    let same : p ≡ View front = (let h : Some p ≡ Some (View front) = held in cc) in
    subst (λ (q : Place). Contains (views_of (q ∷ places)) front) (sym same) (zero, omega arith, refl)
view_there (p ∷ places) (suc k) front held = views_cons p places front (view_there places k front held)

-- the view that a place holds
pub view_read : (places : List Place) (k front there : ℕ) → get_or places k Free ≡ View front → slice_get places k ≡ Some (View there) → front ≡ there
view_read places k front there is held =
    let same : View front ≡ View there = sym is ∙ get_or_from_slice_get places k (View there) Free held in
    (let h : View front ≡ View there = same in cc)

-- a view shows no more than the log has
pub shown_within : (places : List Place) (k front len : ℕ) → length places ≡ PLACES → All (ShowsUpTo len) places → get_or places k Free ≡ View front →
    front ≤ len
shown_within places k front len count shown held = elim (leb_tells (suc k) (length places)) [
  | inl h ↦ subst (ShowsUpTo len) held (shown k Free h.1)
  | inr h ↦
      let past : get_or places k Free ≡ Free = get_or-eq_default places Free (omega (arith, h.1)) in
      absurd (let g : Free ≡ View front = sym past ∙ held in cc)
]

-- a place that holds something else shows no more than before, where that doesn't
pub shown_set : (head seen : ℕ) (places : List Place) (k : ℕ) (held : Place) → seen ≤ head → ShowsUpTo head held → All (ShowsUpTo seen) places →
    All (ShowsUpTo head) (set places k held)
shown_set head seen places k held later shows all = All-set (ShowsUpTo head) places k held shows (λ i d below. shows_longer seen head _ later (all i d below))

-- the views that are there are as before, or those of what a place holds now
pub kept_view : (places : List Place) (k : ℕ) (held : Place) (head : ℕ) → ((n : ℕ) → held ≡ View n → head ≡ n) → (n : ℕ) →
    Contains (views_of (set places k held)) n → (head ≡ n) ⊎ Contains (views_of places) n
kept_view places k held head whole n there = elim (views_set places k held n there) as (λ _. (head ≡ n) ⊎ Contains (views_of places) n) [
  | inl is ↦ inl (whole n is)
  | inr before ↦ inr before
]

-- a place that holds something is one of the places
pub place_there : (places : List Place) (k : ℕ) (held : Place) → slice_get places k ≡ Some held → k < length places
place_there places k held at = slice_get_within places k held at

-- the cursor that a place holds
pub stream_read : (places : List Place) (k cursor there : ℕ) → get_or places k Free ≡ Stream cursor → slice_get places k ≡ Some (Stream there) → cursor ≡ there
stream_read places k cursor there is held =
    let same : Stream cursor ≡ Stream there = sym is ∙ get_or_from_slice_get places k (Stream there) Free held in
    (let h : Stream cursor ≡ Stream there = same in cc)

-- the views at places, and then at some more
pub views_append : (places more : List Place) → views_of (places ++ more) ≡ views_of places ++ views_of more
views_append [] more = refl
views_append (Free ∷ places) more = views_append places more
views_append (Stream cursor ∷ places) more = views_append places more
views_append (View front ∷ places) more = ap (λ (l : List ℕ). front ∷ l) (views_append places more)

-- a view of the whole log
pub view_whole : (front n len : ℕ) → front ≡ len → View front ≡ View n → len ≡ n
view_whole front n len whole is = sym whole ∙ (let h : View front ≡ View n = is in cc)

-- a stream is no view
pub stream_is_none : {P : Type 0} (cursor n : ℕ) → Stream cursor ≡ View n → P
stream_is_none cursor n is = absurd (let h : Stream cursor ≡ View n = is in cc)

-- the views at one place more
pub views_more : (places : List Place) (i : ℕ) (d : Place) (first start now : List ℕ) → i < length places → now ≡ start ++ views_of (get_or places i d ∷ []) →
    start ≡ first ++ views_of (take i places) → now ≡ first ++ views_of (take (i + 1) places)
views_more places i d first start now within added so_far =
    let one = get_or places i d ∷ [] in
    let more : views_of (take (i + 1) places) ≡ views_of (take i places) ++ views_of one =
    ap views_of (take_more places i d within) ∙ views_append (take i places) one in
    added ∙ ap (λ (l : List ℕ). l ++ views_of one) so_far ∙ append_assoc first (views_of (take i places)) (views_of one)
    ∙ ap (λ (l : List ℕ). first ++ l) (sym more)

-- a stream has come no further
pub stream_within : (places : List Place) (k cursor len : ℕ) → All (ShowsUpTo len) places → slice_get places k ≡ Some (Stream cursor) → cursor ≤ len
stream_within places k cursor len shown held =
    subst (ShowsUpTo len) (get_or_from_slice_get places k (Stream cursor) Free held) (shown k Free (slice_get_within places k (Stream cursor) held))
