-- Entries that are read in their turn one after another.
use Rattle.std.proofs.Common.{◌≡◌, ◌⊎◌, ℕ, zero, suc, ◌+◌, ◌^◌, ◌<◌, ◌≤◌, true, false, cond, List, [], ◌∷◌, ◌++◌, length, set, take, drop, sym, refl, ap}
use Rattle.std.proofs.Common.{◌∙◌, inl, inr, ⊎_elim, arith, subst}
use Rattle.std.specs.Prelude.{All, max, ◌==◌}
use Rattle.std.proofs.lemmas.Bool.Decides.{nat_tests}
use Rattle.std.proofs.lemmas.List.{take-take, length_push}
use Rattle.std.proofs.lemmas.List.Elements.{All-nil, All-cons, All-push, All-weaker}
use mathlib.Core.Option.{some, some-ne-none}
use lib.ListN.{get_elem?}
use Rattle.atomic_table.specs.Table.{Me}
use Rattle.go_word.specs.declared.edge.Edge.{Edge}
use Rattle.go_word.specs.Word.{decode}
use Rattle.go_core.specs.Rule.{IsOf}
use Rattle.go_core.specs.View.{numbered}
use Rattle.go_core.proofs.ListLemmas.{numbered_push}
use Rattle.go_rule.specs.declared.view.SeatView.{SeatView}
use Rattle.go_rule.specs.Rule.{IsBelow}
use Rattle.go_rule.specs.Views.{with_took, with_unmoved}
use Rattle.go_rule.specs.Steps.{SeesOn, Took, CanTakeNext}
use Rattle.go_rule.proofs.Beginnings.{begins_within}
use Rattle.go_ring.specs.Takes.{with_run, Takes, TakeIs}

-- what stands among the first so many stands in the list
lookup_whole : {A : Type 0} (n : ℕ) (xs : List A) (k : ℕ) (x : A) → get_elem? (take n xs) k ≡ some x → get_elem? xs k ≡ some x
lookup_whole zero xs k x there = absurd (some-ne-none x (sym there))
lookup_whole (suc n) [] k x there = absurd (some-ne-none x (sym there))
lookup_whole (suc n) (y ∷ ys) zero x there = there
lookup_whole (suc n) (y ∷ ys) (suc k) x there = lookup_whole n ys k x there

-- a run lengthened by one
run_more : {P : Type 0} (p n : ℕ) (one two : List Edge) (d : SeatView P) → p + 1 ≡ n → with_took p two (with_run p one d) ≡ with_run n two d
run_more p n one two d next =
    let seen : max (max d.core.seen p) (p + 1) ≡ max d.core.seen n = omega arith in
    let taken : max (max d.core.taken p) (p + 1) ≡ max d.core.taken n = omega arith in
    ap (λ a. record d { core = record d.core { seen = a; taken = max (max d.core.taken p) (p + 1); fresh = false }; told = record d.told { seen = two } }) seen
    ∙ ap (λ b. record d { core = record d.core { seen = max d.core.seen n; taken = b; fresh = false }; told = record d.told { seen = two } }) taken

-- one more is put behind the first so many
pub take_put : {A : Type 0} (n : ℕ) (xs : List A) (x : A) → n < length xs → take (n + 1) (set xs n x) ≡ take n xs ++ x ∷ []
take_put n xs x less = ap (λ k. take k (set xs n x)) (more n) ∙ put n xs x less
  where
    more : (k : ℕ) → k + 1 ≡ suc k
    more k = omega arith

    put : {A : Type 0} (k : ℕ) (ys : List A) (y : A) → k < length ys → take (suc k) (set ys k y) ≡ take k ys ++ y ∷ []
    put k [] y less = absurd (omega arith)
    put zero (z ∷ zs) y less = refl
    put (suc k) (z ∷ zs) y less = ap (λ ws. z ∷ ws) (put k zs y (omega arith))

-- and the others stay
pub drop_put : {A : Type 0} (n : ℕ) (xs ys : List A) (x : A) → drop n xs ≡ drop n ys → drop (n + 1) (set xs n x) ≡ drop (n + 1) ys
drop_put n xs ys x same = ap (λ k. drop k (set xs n x)) (more n) ∙ put n xs x ∙ rest n xs ∙ ap (drop 1) same ∙ sym (rest n ys)
    ∙ ap (λ k. drop k ys) (sym (more n))
  where
    more : (k : ℕ) → k + 1 ≡ suc k
    more k = omega arith

    put : {A : Type 0} (k : ℕ) (zs : List A) (z : A) → drop (suc k) (set zs k z) ≡ drop (suc k) zs
    put k [] z = refl
    put zero (w ∷ ws) z = refl
    put (suc k) (w ∷ ws) z = put k ws z

    rest : {A : Type 0} (k : ℕ) (zs : List A) → drop (suc k) zs ≡ drop 1 (drop k zs)
    rest zero zs = refl
    rest (suc k) [] = refl
    rest (suc k) (z ∷ zs) = rest k zs

module _ {P S : Type 0} where
  -- nothing was read yet, or a run
  abbrev pub Reading : ℕ → List Edge → Me S (SeatView P) → Me S (SeatView P) → Type 0
  Reading from es start now = ((es ≡ []) × (now ≡ start)) ⊎ ((1 ≤ length es) × Takes from es start now)

  -- the next word may be read in its turn
  pub can_next : (from : ℕ) (es : List Edge) (start now : Me S (SeatView P)) → CanTakeNext start.0 from → Reading from es start now
      → CanTakeNext now.0 (from + length es)
  can_next from es start now can reading =
      ⊎_elim
      (λ none.
      let same : from ≡ from + length es = sym (ap (λ zs. from + length zs) none.0 ∙ omega arith) in
      subst (λ (z : Me S (SeatView P)). CanTakeNext z.0 (from + length es)) (sym none.1) (subst (CanTakeNext start.0) same can))
      (λ run.
      let takes = run.1 in
      subst (λ (z : Me S (SeatView P)). CanTakeNext z.0 (from + length es)) (sym takes.becomes)
      (record {
        role = ⊎_elim (λ one. let low = one.1 in inl (one.0, omega arith)) (λ two. let low = two.1 in inr (two.0, omega arith)) can.role;
        next = omega arith;
      })) reading

  -- and lengthens the run where it is matched
  pub reads_next : (from : ℕ) (es : List Edge) (word : ℕ) (start now after : Me S (SeatView P)) → Reading from es start now
      → Took (from + length es) now word after → Reading from (es ++ decode word ∷ []) start after
  reads_next from es word start now after reading took =
      let e = decode word in
      let p : ℕ = from + length es in
      let long = length_push es e in
      ⊎_elim
      (λ none.
      let first : p ≡ from = ap (λ zs. from + length zs) none.0 ∙ omega arith in
      let more : Took p start word after = subst (λ z. Took p z word after) none.1 took in
      let one : es ++ e ∷ [] ≡ e ∷ [] = ap (λ zs. zs ++ e ∷ []) none.0 in
      let next : p + 1 ≡ from + length (es ++ e ∷ []) = omega arith in
      inr (
        omega arith,
        record {
          seen = more.seen;
          becomes = more.becomes ∙ ap (λ n. (with_run n more.seen start.0, start.1)) next;
          sees = subst (SeesOn start.0.told.seen more.seen start.0.core.seen) next more.sees;
          entries = subst (λ zs. All (IsOf more.seen) (numbered from zs)) (sym one)
              (All-cons (IsOf more.seen) (record { at = from; edge = e }) [] (subst (λ q. get_elem? more.seen q ≡ some e) first more.entry)
              (All-nil (IsOf more.seen)));
          below = subst (All (IsBelow start.0.about.vertices)) (sym one)
              (All-cons (IsBelow start.0.about.vertices) e [] more.below (All-nil (IsBelow start.0.about.vertices)));
          small = let few = more.small in omega arith;
        },
      ))
      (λ run.
      let takes = run.1 in
      let mid : Me S (SeatView P) = (with_run p takes.seen start.0, start.1) in
      let more : Took p mid word after = subst (λ z. Took p z word after) takes.becomes took in
      let next : p + 1 ≡ from + length (es ++ e ∷ []) = omega arith in
      let within : length start.0.told.seen ≤ length takes.seen = begins_within takes.seen start.0.told.seen takes.sees.begins in
      let up_to = more.sees.up_to in
      inr (
        omega arith,
        record {
          seen = more.seen;
          becomes = more.becomes ∙ ap (λ d. (d, start.1)) (run_more p (from + length (es ++ e ∷ [])) takes.seen more.seen start.0 next);
          sees = record {
            begins = takes.sees.begins ∙ ap (take (length start.0.told.seen)) more.sees.begins
                ∙ take-take (length start.0.told.seen) (length takes.seen) more.seen within;
            up_to = omega arith;
          };
          entries = subst (All (IsOf more.seen)) (sym (numbered_push from es e p refl))
              (All-push (IsOf more.seen) (numbered from es) (record { at = p; edge = e })
              (All-weaker (IsOf takes.seen) (IsOf more.seen)
              (λ x there. lookup_whole (length takes.seen) more.seen x.at x.edge (subst (λ zs. get_elem? zs x.at ≡ some x.edge) more.sees.begins there))
              (numbered from es) takes.entries) more.entry);
          below = All-push (IsBelow start.0.about.vertices) es e takes.below more.below;
          small = let few = more.small in omega arith;
        },
      )) reading

  -- what is past all that was seen and taken is so from the start
  pub still_unseen : (from p : ℕ) (es : List Edge) (start now : Me S (SeatView P)) → Reading from es start now → now.0.core.seen ≤ p → now.0.core.taken ≤ p
      → (start.0.core.seen ≤ p) × (start.0.core.taken ≤ p)
  still_unseen from p es start now reading unseen untaken =
      ⊎_elim
      (λ none.
      let seen : now.0.core.seen ≡ start.0.core.seen = ap (λ (z : Me S (SeatView P)). z.0.core.seen) none.1 in
      let taken : now.0.core.taken ≡ start.0.core.taken = ap (λ (z : Me S (SeatView P)). z.0.core.taken) none.1 in (omega arith, omega arith))
      (λ run.
      let becomes = run.1.becomes in
      let seen : now.0.core.seen ≡ max start.0.core.seen (from + length es) = ap (λ (z : Me S (SeatView P)). z.0.core.seen) becomes in
      let taken : now.0.core.taken ≡ max start.0.core.taken (from + length es) = ap (λ (z : Me S (SeatView P)). z.0.core.taken) becomes in
      (omega arith, omega arith)) reading

  -- a word that isn't matched ends it
  pub ends_short : (from room : ℕ) (es : List Edge) (start now after : Me S (SeatView P)) → length es < room → Reading from es start now
      → after ≡ (with_unmoved now.0, now.1) → TakeIs from room es start after
  ends_short from room es start now after less reading becomes =
      ⊎_elim
      (λ none.
      let some' : (room == 0) ≡ false = above room (omega arith) in
      inl (
        none.0,
        becomes ∙ ap (λ (z : Me S (SeatView P)). (with_unmoved z.0, z.1)) none.1
            ∙ sym (ap (λ b. cond b start (with_unmoved start.0, start.1)) some'),
      ))
      (λ run.
      let takes = run.1 in
      inr (
        run.0,
        record {
          seen = takes.seen;
          becomes = becomes ∙ ap (λ (z : Me S (SeatView P)). (with_unmoved z.0, z.1)) takes.becomes;
          sees = takes.sees;
          entries = takes.entries;
          below = takes.below;
          small = takes.small;
        },
      )) reading
    where
      above : (n : ℕ) → 0 < n → (n == 0) ≡ false
      above n less = grind (arith, nat_tests)

  -- and so does the end of the room
  pub ends_full : (from room : ℕ) (es : List Edge) (start now : Me S (SeatView P)) → room ≡ length es → Reading from es start now
      → TakeIs from room es start now
  ends_full from room es start now full reading =
      ⊎_elim
      (λ none.
      let nothing : (room == 0) ≡ true = here room (full ∙ ap length none.0) in
      inl (none.0, none.1 ∙ sym (ap (λ b. cond b start (with_unmoved start.0, start.1)) nothing))) (λ run. inr run) reading
    where
      here : (n : ℕ) → n ≡ 0 → (n == 0) ≡ true
      here n is = grind (arith, nat_tests)

  -- the next position is a number of 64 bits
  pub next_small : (from : ℕ) (es : List Edge) (start now : Me S (SeatView P)) → from < 2 ^ 64 → Reading from es start now → from + length es < 2 ^ 64
  next_small from es start now fits reading =
      ⊎_elim (λ none. let long : length es ≡ 0 = ap length none.0 in omega arith) (λ run. let few = run.1.small in omega arith) reading
