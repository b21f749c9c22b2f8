-- The places of a handle, one of which holds something else.
use Rattle.std.proofs.Common.{◌≡◌, ◌≢◌, ◌⊎◌, ℕ, zero, suc, ◌<◌, ◌≤◌, List, [], ◌∷◌, length, map, take, get_or, slice_get, Some, sym, refl, ap, ◌∙◌, inl, inr, arith, subst}
use Rattle.std.specs.Prelude.{All, option_map, slice_index_or, slice_set}
use Rattle.std.proofs.lemmas.Bool.Decides.{eqb_tells}
use Rattle.std.proofs.lemmas.List.{length-map, length-set, map-set, take-take}
use Rattle.std.proofs.lemmas.Option.{get_or_from_slice_get, slice_get-map, slice_get_read, slice_get_within}
use Rattle.std.proofs.lemmas.List.Elements.{All-set, All-weaker}
use Rattle.go_word.specs.declared.edge.Edge.{Edge}
use Rattle.go_word.specs.Neighbours.{neighbours}
use Rattle.go_api.specs.Standing.{ShowsUpTo}
use Rattle.go_rule.specs.declared.view.SeatView.{SeatView}
use Rattle.go_views.specs.Views.{View as AView, IsView}
use Rattle.go_api.specs.declared.place.Place.{Place}
use Rattle.go_api.specs.declared.place.Place.TheVariants as places
use Rattle.go_stream.specs.declared.live_stream.LiveStream.{LiveStream}
use Rattle.go_live.specs.declared.held.Held.{Held}
use Rattle.go_live.specs.declared.held.Held.TheVariants.{Free, View, Stream}
use Rattle.go_live.specs.Handles.{AreApart, HasPlaces}
use Rattle.go_live.specs.Standings.{place_of}
use Rattle.go_live.proofs.Handling.{shows_later}

-- two numbers are the same or not
same_or_not : (j k : ℕ) → (j ≡ k) ⊎ (j ≢ k)
same_or_not j k = elim (eqb_tells j k) [
  | inl h ↦ inl h.1
  | inr h ↦ inr h.1
]

-- what a list has where something was put, and elsewhere
get_replaced : {X : Type 0} → (xs : List X) (k : ℕ) (x : X) → k < length xs → slice_get (slice_set xs k x) k ≡ Some x
get_replaced [] k x within = absurd (omega arith)
get_replaced (z ∷ xs) zero x within = refl
get_replaced (z ∷ xs) (suc k) x within = get_replaced xs k x (omega arith)

get_beside : {X : Type 0} → (xs : List X) (k j : ℕ) (x : X) → (k ≡ j → ⊥) → slice_get (slice_set xs k x) j ≡ slice_get xs j
get_beside [] k j x other = refl
get_beside (z ∷ xs) zero zero x other = absurd (other refl)
get_beside (z ∷ xs) zero (suc j) x other = refl
get_beside (z ∷ xs) (suc k) zero x other = refl
get_beside (z ∷ xs) (suc k) (suc j) x other = get_beside xs k j x (λ same. other (ap (λ n. suc n) same))

-- what one and the same element is
same_some : {X : Type 0} (x y : X) → Some x ≡ Some y → x ≡ y
same_some x y same = (let h : Some x ≡ Some y = same in cc)

-- what two names of one view are
same_view : (one other : AView) → View one ≡ View other → one ≡ other
same_view one other same = (let h : View one ≡ View other = same in cc)

module _ {P : Type 0} (shards : ℕ) (e : SeatView P) where
  -- what is put at a place may stand there: a view is the seat's, with pins of other names than the views elsewhere have
  pub record MayHold (held : List Held) (k : ℕ) (new : Held) : Type 0 where
    pub is : (view : AView) → new ≡ View view → IsView shards view e
    pub apart : (view : AView) → new ≡ View view → (j : ℕ) (other : AView) → j ≢ k → slice_get held j ≡ Some (View other) → AreApart shards other view

  -- nothing and a stream may stand anywhere
  pub may_hold_free : (held : List Held) (k : ℕ) → MayHold held k Free
  may_hold_free held k = record {
    is = λ view same. absurd (let h : Free ≡ View view = same in cc);
    apart = λ view same j other ne there. absurd (let h : Free ≡ View view = same in cc);
  }

  pub may_hold_stream : (held : List Held) (k : ℕ) (stream : LiveStream) → MayHold held k (Stream stream)
  may_hold_stream held k stream = record {
    is = λ view same. absurd (let h : Stream stream ≡ View view = same in cc);
    apart = λ view same j other ne there. absurd (let h : Stream stream ≡ View view = same in cc);
  }

  -- a view of the seat's may, whose pins have other names than those of the views elsewhere
  pub may_hold_view : (held : List Held) (k : ℕ) (view : AView) → IsView shards view e
      → ((j : ℕ) (other : AView) → j ≢ k → slice_get held j ≡ Some (View other) → AreApart shards other view) → MayHold held k (View view)
  may_hold_view held k view is apart = record {
    is = λ seen same. subst (λ v. IsView shards v e) (same_view view seen same) is;
    apart = λ seen same j other ne there. subst (AreApart shards other) (same_view view seen same) (apart j other ne there);
  }

  -- the places with it
  pub places_set : (d : SeatView P) (seen later : ℕ) (held : List Held) (k : ℕ) (new : Held) → k < length held → seen ≤ later → ShowsUpTo later (place_of new)
      → ((j : ℕ) (view : AView) → j ≢ k → slice_get held j ≡ Some (View view) → IsView shards view d → IsView shards view e) → MayHold held k new
      → HasPlaces shards seen held d → HasPlaces shards later (slice_set held k new) e
  places_set d seen later held k new within more shows stays may places =
      record {
        count = length-set held k new ∙ places.count;
        shown = subst (All (ShowsUpTo later)) (sym (map-set place_of held k new))
            (All-set (ShowsUpTo later) (map place_of held) k (place_of new) shows
            (All-weaker (ShowsUpTo seen) (ShowsUpTo later) (λ p. shows_later seen later p more) (map place_of held) places.shown));
        views = λ j view there. elim (same_or_not j k) [
          | inl same ↦ may.is view (here j view same there)
          | inr ne ↦ let old = beside j ne there in stays j view ne old (places.views j view old)
        ];
        apart = λ i j one other ne there also. elim (same_or_not i k) [
          | inl first ↦ elim (same_or_not j k) [
            | inl second ↦ absurd (ne (first ∙ sym second))
            | inr second ↦
                let old = beside j second also in
                λ place less same. may.apart one (here i one first there) j other second old place less (sym same)
          ]
          | inr first ↦ elim (same_or_not j k) [
            | inl second ↦ may.apart other (here j other second also) i one first (beside i first there)
            | inr second ↦ places.apart i j one other ne (beside i first there) (beside j second also)
          ]
        ];
      }
    where
      here : (j : ℕ) (view : AView) → j ≡ k → slice_get (slice_set held k new) j ≡ Some (View view) → new ≡ View view
      here j view same there = same_some new (View view) (sym (get_replaced held k new within) ∙ ap (slice_get (slice_set held k new)) (sym same) ∙ there)

      beside : (j : ℕ) {view : AView} → j ≢ k → slice_get (slice_set held k new) j ≡ Some (View view) → slice_get held j ≡ Some (View view)
      beside j ne there = sym (get_beside held k j new (λ same. ne (sym same))) ∙ there

-- a place that holds something is one of those that there are
pub place_within : (held : List Held) (k : ℕ) (place : Place) → slice_get (map place_of held) k ≡ Some place → k < length held
place_within held k place there =
    let within = slice_get_within (map place_of held) k place there in
    let long = length-map held place_of in
    omega arith

-- what was read at a place that holds something is that
pub held_there : (held : List Held) (k : ℕ) (at : Held) (view : AView) (place : Place) → slice_get (map place_of held) k ≡ Some place
    → at ≡ slice_index_or held k at → at ≡ View view → slice_get held k ≡ Some (View view)
held_there held k at view place there is same = slice_get_read held (length held) k (View view) refl (place_within held k place there)
    (subst (λ v. v ≡ slice_index_or held k v) same is)

-- a view that stands at a place shows the front that the place does
pub front_there : (held : List Held) (k front : ℕ) (view : AView) → slice_get held k ≡ Some (View view) → slice_get (map place_of held) k ≡ Some (places.View front)
    → front ≡ view.front
front_there held k front view there shown =
    let same : Some (place_of (View view)) ≡ Some (places.View front) = sym (slice_get-map place_of held k ∙ ap (option_map place_of) there) ∙ shown in
    (let h : Some (places.View view.front) ≡ Some (places.View front) = same in cc)

-- what was taken from a place stood there
pub taken_there : (held : List Held) (k : ℕ) (taken : Held) (view : AView) → slice_get held k ≡ Some taken → taken ≡ View view → slice_get held k ≡ Some (View view)
taken_there held k taken view there same = there ∙ ap (λ (x : Held). Some x) same

-- a view that stands at a place shows no more than was seen, and a stream has come no further
pub view_within : (seen : ℕ) (held : List Held) (k front : ℕ) → All (ShowsUpTo seen) (map place_of held) → slice_get (map place_of held) k ≡ Some (places.View front)
    → front ≤ seen
view_within seen held k front shown there =
    subst (ShowsUpTo seen) (get_or_from_slice_get (map place_of held) k (places.View front) places.Free there)
    (shown k places.Free (slice_get_within (map place_of held) k (places.View front) there))

-- what a view lists of what the seat has seen, it lists of what the session was shown
pub listed_shown : (told : List Edge) (seen front shown v : ℕ) (list : List ℕ) → front ≡ shown → front ≤ seen → list ≡ neighbours (take shown told) v
    → list ≡ neighbours (take front (take seen told)) v
listed_shown told seen front shown v list same within is =
    is ∙ ap (λ n. neighbours (take n told) v) (sym same) ∙ ap (λ log. neighbours log v) (sym (take-take front seen told within))

-- what a place shows that holds a stream
pub stream_there : (held : List Held) (k : ℕ) (at : Held) (stream : LiveStream) (place : Place) → slice_get (map place_of held) k ≡ Some place
    → at ≡ slice_index_or held k at → at ≡ Stream stream → slice_get (map place_of held) k ≡ Some (places.Stream stream.cursor)
stream_there held k at stream place there is same =
    slice_get-map place_of held k
    ∙ ap (option_map place_of) (slice_get_read held (length held) k (Stream stream) refl (place_within held k place there)
    (subst (λ v. v ≡ slice_index_or held k v) same is))
