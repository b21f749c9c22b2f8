-- Lemmas on walks: one reply more, and what stands at the places after it.
use Rattle.std.proofs.Common.{◌≡◌, ℕ, ◌==◌, if◌then◌else◌, true, false, List, [], ◌∷◌, ◌++◌, length, slice_get, slice_set, fold, Option, Some, None}
use Rattle.std.proofs.Common.{refl, ap, sym}
use Rattle.std.proofs.Common.{subst, ◌<◌, ◌∙◌, arith, inl, inr}
use Rattle.std.proofs.lemmas.Bool.Decides.{nat_tests, eqb_tells}
use Rattle.std.proofs.lemmas.List.Sums.{fold-append}
use Rattle.go_api.specs.declared.place.Place.{Place}
use Rattle.go_script.specs.declared.usage.Kind.{Kind}
use Rattle.go_script.specs.declared.usage.Use.{Use}
use Rattle.go_script.specs.declared.usage.Use.TheVariants as uses
use Rattle.go_script.specs.Places.{kind_after}
use Rattle.go_report.specs.declared.reply.Reply.{Reply}
use Rattle.go_session.specs.Asked.{Asked}
use Rattle.go_session.specs.Session.{kind_of}
use Rattle.go_session.specs.Walk.{World, Walk, Placed, IsReply, Replies, start, after, walked, places_with}
use Rattle.go_session.proofs.ListLemmas.{slice_get_replaced, slice_get_beside}

-- the replies to the first commands, and one to the next
pub Replies_push : (world : World) (walk : Walk) (asked : List Asked) (replies : List Reply) (a : Asked) (reply : Reply) →
    Replies world walk asked replies → slice_get asked (length replies) ≡ Some a → IsReply world (fold after walk replies) a reply →
    Replies world walk asked (replies ++ reply ∷ [])
Replies_push world walk [] [] a reply allowed next this = absurd (let h : None ≡ Some a = next in cc)
Replies_push world walk (b ∷ asked) [] a reply allowed next this =
    let same : b ≡ a = (let h : Some b ≡ Some a = next in cc) in
    (subst (λ (d : Asked). IsReply world walk d reply) (sym same) this, tt)
Replies_push world walk [] (r ∷ replies) a reply allowed next this = absurd allowed
Replies_push world walk (b ∷ asked) (r ∷ replies) a reply allowed next this =
    (allowed.0, Replies_push world (after walk r) asked replies a reply allowed.1 next this)

-- a walk after one reply more
pub walked-push : (first : ℕ) (replies : List Reply) (reply : Reply) → walked first (replies ++ reply ∷ []) ≡ after (walked first replies) reply
walked-push first replies reply = fold-append after (start first) replies (reply ∷ [])

-- a walk keeps how long the log was at opening
first_stays : (walk : Walk) (replies : List Reply) → (fold after walk replies).first ≡ walk.first
first_stays walk [] = refl
first_stays walk (reply ∷ replies) = first_stays (after walk reply) replies

pub walked_first : (first : ℕ) (replies : List Reply) → (walked first replies).first ≡ first
walked_first first replies = first_stays (start first) replies

-- the places, once one of them holds something else
abbrev pub placed_in : Option Placed → List Place → List Place
placed_in None places = places
placed_in (Some now) places = slice_set places now.place now.holds

-- they hold what a walk has there
pub placed_at : (placed : Option Placed) (places : List Place) (place_at : ℕ → Place) (k : ℕ) → k < length places → slice_get places k ≡ Some (place_at k) →
    slice_get (placed_in placed places) k ≡ Some (places_with placed place_at k)
placed_at None places place_at k within was = was
placed_at (Some now) places place_at k within was =
    elim (eqb_tells k now.place) [
      | inl h ↦ rw h.0 (subst (λ (j : ℕ). slice_get (slice_set places j now.holds) k ≡ Some now.holds) h.1
          (slice_get_replaced places k now.holds within))
      | inr h ↦ rw h.0 (slice_get_beside places now.place k now.holds (λ same. h.1 (sym same)) ∙ was)
    ]

-- what a command does with a place is what its reply leaves there
abbrev pub UseLeaves : (ℕ → Place) → Use → Option Placed → Type 0
UseLeaves place_at uses.Nothing None = Unit {0}
UseLeaves place_at uses.Nothing (Some now) = ⊥
UseLeaves place_at (uses.Fills place kind) None = ⊥
UseLeaves place_at (uses.Fills place kind) (Some now) = (now.place ≡ place) × (kind_of now.holds ≡ Some kind)
UseLeaves place_at (uses.Reads place kind) None = Unit {0}
UseLeaves place_at (uses.Reads place kind) (Some now) = (now.place ≡ place) × (kind_of now.holds ≡ kind_of (place_at place))
UseLeaves place_at (uses.Frees place kind) None = ⊥
UseLeaves place_at (uses.Frees place kind) (Some now) = (now.place ≡ place) × (kind_of now.holds ≡ None)

-- the kind at a place that holds something else
kind_placed : (place_at : ℕ → Place) (now : Placed) (place k : ℕ) (kind : Option Kind) → now.place ≡ place → kind_of now.holds ≡ kind →
    (if place == k then kind else kind_of (place_at k)) ≡ kind_of (if k == now.place then now.holds else place_at k)
kind_placed place_at now place k kind there holds =
    elim (eqb_tells k now.place) [
      | inl h ↦
          let same : place == k ≡ true = grind (arith, nat_tests, h.1, there) in
          rw (h.0, same) (sym holds)
      | inr h ↦
          let other : place == k ≡ false = (let h1 = h.1 in grind (arith, nat_tests, h1, there)) in
          rw (h.0, other) refl
    ]

-- the kind at the place that is used stays
kind_stays : (place_at : ℕ → Place) (now : Placed) (place k : ℕ) → now.place ≡ place → kind_of now.holds ≡ kind_of (place_at place) →
    kind_of (place_at k) ≡ kind_of (if k == now.place then now.holds else place_at k)
kind_stays place_at now place k there holds =
    elim (eqb_tells k now.place) [
      | inl h ↦
          let same : k ≡ place = h.1 ∙ there in
          rw h.0 (ap (λ (j : ℕ). kind_of (place_at j)) same ∙ sym holds)
      | inr h ↦ rw h.0 refl
    ]

-- so each place has its kind after the command
pub kind_leaves : (place_at : ℕ → Place) (u : Use) (placed : Option Placed) (k : ℕ) → UseLeaves place_at u placed →
    kind_after k (kind_of (place_at k)) u ≡ kind_of (places_with placed place_at k)
kind_leaves place_at uses.Nothing None k leaves = refl
kind_leaves place_at uses.Nothing (Some now) k leaves = absurd leaves
kind_leaves place_at (uses.Fills place kind) None k leaves = absurd leaves
kind_leaves place_at (uses.Fills place kind) (Some now) k leaves = kind_placed place_at now place k (Some kind) leaves.0 leaves.1
kind_leaves place_at (uses.Reads place kind) None k leaves = refl
kind_leaves place_at (uses.Reads place kind) (Some now) k leaves = kind_stays place_at now place k leaves.0 leaves.1
kind_leaves place_at (uses.Frees place kind) None k leaves = absurd leaves
kind_leaves place_at (uses.Frees place kind) (Some now) k leaves = kind_placed place_at now place k None leaves.0 leaves.1
