-- For callers that give a shard back: its pins as they were, one more, one moved, one less; and what its party may tell of a shard in hand.
use Rattle.std.proofs.Common.{◌≡◌, ℕ, zero, suc, ◌+◌, ◌<◌, ◌≤◌, Bool, true, false, cond, List, [], ◌∷◌, ◌++◌, map, length, get_or, Option, Some, None, sym}
use Rattle.std.proofs.Common.{refl, ap, ◌∙◌, inl, inr, ⊎_elim, arith, subst}
use Rattle.std.specs.Prelude.{All, Contains, find, filter, is_some, count_by, not, ◌==◌}
use Rattle.std.specs.Option.{option_or}
use Rattle.std.proofs.lemmas.Bool.{cases_Bool, true≢false}
use Rattle.std.proofs.lemmas.Bool.Decides.{nat_tests}
use Rattle.std.proofs.lemmas.Option.{same_Some, none-some}
use Rattle.std.proofs.lemmas.List.Folds.{find-append}
use Rattle.std.proofs.lemmas.List.Sums.{sum_by-cons, sum_by-append}
use Rattle.std.proofs.lemmas.List.Elements.{All-push, All-weaker, All-map, All-filter, filter_passes, All-contains_itself}
use Rattle.go_word.specs.declared.pin.Pin.{Pin}
use Rattle.go_word.specs.Pins.{is_named, has_name}
use Rattle.go_core.specs.declared.part.PartState.{PartState}
use Rattle.go_core.specs.Parts.{AreNamed, Follows, KeepsPins}
use Rattle.go_core.proofs.Totals.{bit_of}
use Rattle.go_core.proofs.PinLaws.{has-in}

-- a pin has its own name, and another where its number is another
name_itself : (id : ℕ) → (id == id) ≡ true
name_itself id = grind (arith, nat_tests)

name_same : (a b : ℕ) → (a == b) ≡ true → a ≡ b
name_same a b is = grind (arith, nat_tests)

-- a name that stands once is found where it stands
pub found-once : (pins : List Pin) (p : Pin) → Contains pins p → count_by (is_named p.id) pins ≡ 1 → find (is_named p.id) pins ≡ Some p
found-once pins p contained once = at pins p contained.0 contained.1 contained.2 once
  where
    counted : (pins : List Pin) (p : Pin) (k : ℕ) → k < length pins → get_or pins k p ≡ p → 0 < count_by (is_named p.id) pins
    counted [] p k within is = absurd (omega arith)
    counted (q ∷ qs) p zero within is =
        let here : is_named p.id q ≡ true = ap (λ z. is_named p.id z) is ∙ name_itself p.id in
        let one : bit_of (is_named p.id q) ≡ 1 = ap bit_of here in
        omega (arith, sum_by-cons (λ z. bit_of (is_named p.id z)) q qs)
    counted (q ∷ qs) p (suc k) within is =
        let rest = counted qs p k (omega arith) is in
        omega (arith, sum_by-cons (λ z. bit_of (is_named p.id z)) q qs)

    at : (pins : List Pin) (p : Pin) (k : ℕ) → k < length pins → get_or pins k p ≡ p → count_by (is_named p.id) pins ≡ 1 → find (is_named p.id) pins ≡ Some p
    at [] p k within is once = absurd (omega arith)
    at (q ∷ qs) p zero within is once =
        let here : is_named p.id q ≡ true = ap (λ z. is_named p.id z) is ∙ name_itself p.id in
        ap (λ b. cond b (Some q) (find (is_named p.id) qs)) here ∙ ap Some is
    at (q ∷ qs) p (suc k) within is once =
        ⊎_elim
        (λ (here : is_named p.id q ≡ true).
        let one : bit_of (is_named p.id q) ≡ 1 = ap bit_of here in
        let more = counted qs p k (omega arith) is in
        absurd (omega (arith, sum_by-cons (λ z. bit_of (is_named p.id z)) q qs)))
        (λ (other : is_named p.id q ≡ false).
        let none : bit_of (is_named p.id q) ≡ 0 = ap bit_of other in
        let rest = at qs p k (omega arith) is (omega (arith, sum_by-cons (λ z. bit_of (is_named p.id z)) q qs)) in
        ap (λ b. cond b (Some q) (find (is_named p.id) qs)) other ∙ rest)
        (cases_Bool (is_named p.id q))

-- each pin of a list with names of its own is found by its name
pub all_found : (pins : List Pin) → AreNamed pins → All (λ pin. find (is_named pin.id) pins ≡ Some pin) pins
all_found pins names k d within =
    let there = All-contains_itself pins k d within in
    found-once pins (get_or pins k d) there (names k d within)

-- the same pins, over a cut that may have risen
pub pins_unchanged : (archived : ℕ) (own : ℕ → Bool) (old new : PartState) → new.pins ≡ old.pins → All (λ pin. new.cut ≤ pin.front) old.pins → AreNamed old.pins
    → KeepsPins archived own old new
pins_unchanged archived own old new same cut names =
    let found = all_found old.pins names in
    record {
      cut_pins = subst (All (λ pin. new.cut ≤ pin.front)) (sym same) cut;
      names = subst AreNamed (sym same) names;
      others = All-weaker (λ pin. find (is_named pin.id) old.pins ≡ Some pin) (λ pin. own pin.id ≡ false → find (is_named pin.id) new.pins ≡ Some pin)
          (λ pin is other. ap (find (is_named pin.id)) same ∙ is) old.pins found;
      pins = subst (All (λ pin. Follows old.cut archived (own pin.id) (find (is_named pin.id) old.pins) pin)) (sym same)
          (All-weaker (λ pin. find (is_named pin.id) old.pins ≡ Some pin) (λ pin. Follows old.cut archived (own pin.id) (find (is_named pin.id) old.pins) pin)
          (λ pin is. subst (λ o. Follows old.cut archived (own pin.id) o pin) (sym is) (inl refl)) old.pins found);
    }

-- a name that isn't there is none's
none_found : (id : ℕ) (pins : List Pin) → has_name id pins ≡ false → find (is_named id) pins ≡ None
none_found id pins none = of (find (is_named id) pins) none
  where
    of : (o : Option Pin) → is_some o ≡ false → o ≡ None
    of None none = refl
    of (Some p) none = absurd (true≢false none)

none_counted : (id : ℕ) (pins : List Pin) → has_name id pins ≡ false → count_by (is_named id) pins ≡ 0
none_counted id [] none = refl
none_counted id (q ∷ qs) none =
    ⊎_elim (λ (here : is_named id q ≡ true). absurd (true≢false (sym (ap (λ b. is_some (cond b (Some q) (find (is_named id) qs))) here) ∙ none)))
    (λ (other : is_named id q ≡ false).
    let nothing : bit_of (is_named id q) ≡ 0 = ap bit_of other in
    let rest = none_counted id qs (sym (ap (λ b. is_some (cond b (Some q) (find (is_named id) qs))) other) ∙ none) in
    omega (arith, sum_by-cons (λ z. bit_of (is_named id z)) q qs))
    (cases_Bool (is_named id q))

-- one pin more, of a name that was none's, at the cut
pub pins_added : (archived : ℕ) (own : ℕ → Bool) (old new : PartState) (p : Pin) → new.pins ≡ old.pins ++ p ∷ [] → has_name p.id old.pins ≡ false
    → p.front ≡ old.cut
    → new.cut ≤ old.cut → All (λ pin. old.cut ≤ pin.front) old.pins → AreNamed old.pins → KeepsPins archived own old new
pins_added archived own old new p same fresh at_cut cut from names =
    let more = old.pins ++ p ∷ [] in
    let found = all_found old.pins names in
    let counts : (id : ℕ) → count_by (is_named id) more ≡ count_by (is_named id) old.pins + bit_of (is_named id p) = λ id.
    (let both = sum_by-append (λ z. bit_of (is_named id z)) old.pins (p ∷ []) in
    omega (arith, sum_by-cons (λ z. bit_of (is_named id z)) p []))
    in
    let still : (pin : Pin) → find (is_named pin.id) old.pins ≡ Some pin → find (is_named pin.id) more ≡ Some pin = λ pin is.
    find-append (is_named pin.id) old.pins (p ∷ []) ∙ ap (λ o. option_or o (find (is_named pin.id) (p ∷ []))) is
    in
    record {
      cut_pins = subst (All (λ pin. new.cut ≤ pin.front)) (sym same)
          (All-push (λ pin. new.cut ≤ pin.front) old.pins p
          (All-weaker (λ pin. old.cut ≤ pin.front) (λ pin. new.cut ≤ pin.front) (λ pin low. omega arith) old.pins from) (omega arith));
      names = subst AreNamed (sym same)
          (All-push (λ pin. count_by (is_named pin.id) more ≡ 1) old.pins p
          (All-weaker (λ pin. (count_by (is_named pin.id) old.pins ≡ 1) × Contains old.pins pin) (λ pin. count_by (is_named pin.id) more ≡ 1)
          (λ pin one.
          let sum = counts pin.id in
          let was = one.0 in
          let other : bit_of (is_named pin.id p) ≡ 0 = ap bit_of (not_named pin one.1) in
          omega arith) old.pins (λ k d within. (names k d within, All-contains_itself old.pins k d within)))
          (let sum = counts p.id in
          let none = none_counted p.id old.pins fresh in
          let one : bit_of (is_named p.id p) ≡ 1 = ap bit_of (name_itself p.id) in
          omega arith));
      others = All-weaker (λ pin. find (is_named pin.id) old.pins ≡ Some pin) (λ pin. own pin.id ≡ false → find (is_named pin.id) new.pins ≡ Some pin)
          (λ pin is other. ap (find (is_named pin.id)) same ∙ still pin is) old.pins found;
      pins = subst (All (λ pin. Follows old.cut archived (own pin.id) (find (is_named pin.id) old.pins) pin)) (sym same)
          (All-push (λ pin. Follows old.cut archived (own pin.id) (find (is_named pin.id) old.pins) pin) old.pins p
          (All-weaker (λ pin. find (is_named pin.id) old.pins ≡ Some pin) (λ pin. Follows old.cut archived (own pin.id) (find (is_named pin.id) old.pins) pin)
          (λ pin is. subst (λ o. Follows old.cut archived (own pin.id) o pin) (sym is) (inl refl)) old.pins found)
          (subst (λ o. Follows old.cut archived (own p.id) o p) (sym (none_found p.id old.pins fresh)) at_cut));
    }
  where
    not_named : (pin : Pin) → Contains old.pins pin → is_named pin.id p ≡ false
    not_named pin contained =
        ⊎_elim
        (λ (here : is_named pin.id p ≡ true).
        let is : p.id ≡ pin.id = name_same p.id pin.id here in
        absurd (true≢false (sym (ap (λ n. has_name n old.pins) is ∙ has-in old.pins pin contained) ∙ fresh)))
        (λ other. other) (cases_Bool (is_named pin.id p))

-- a pin with another front, where it has the name
abbrev pub moved_to : ℕ → ℕ → Pin → Pin
moved_to id front pin = cond (is_named id pin) (record { id = pin.id; front = front }) pin

moved_named : (id front n : ℕ) (pin : Pin) → is_named n (moved_to id front pin) ≡ is_named n pin
moved_named id front n pin = of (is_named id pin)
  where
    of : (b : Bool) → is_named n (cond b (record { id = pin.id; front = front }) pin) ≡ is_named n pin
    of true = refl
    of false = refl

moved_counts : (id front n : ℕ) (pins : List Pin) → count_by (is_named n) (map (moved_to id front) pins) ≡ count_by (is_named n) pins
moved_counts id front n [] = refl
moved_counts id front n (q ∷ qs) =
    let rest = moved_counts id front n qs in
    let same : bit_of (is_named n (moved_to id front q)) ≡ bit_of (is_named n q) = ap bit_of (moved_named id front n q) in
    omega (arith, sum_by-cons (λ z. bit_of (is_named n z)) q qs, sum_by-cons (λ z. bit_of (is_named n z)) (moved_to id front q) (map (moved_to id front) qs))

moved_found : (id front n : ℕ) (pins : List Pin) (p : Pin) → find (is_named n) pins ≡ Some p
    → find (is_named n) (map (moved_to id front) pins) ≡ Some (moved_to id front p)
moved_found id front n [] p found = absurd (none-some p found)
moved_found id front n (q ∷ qs) p found =
    let there = moved_named id front n q in
    ⊎_elim
    (λ (here : is_named n q ≡ true).
    ap (λ b. cond b (Some (moved_to id front q)) (find (is_named n) (map (moved_to id front) qs))) (there ∙ here)
    ∙ ap (λ z. Some (moved_to id front z)) (same_Some q p (sym (ap (λ b. cond b (Some q) (find (is_named n) qs)) here) ∙ found)))
    (λ (other : is_named n q ≡ false).
    ap (λ b. cond b (Some (moved_to id front q)) (find (is_named n) (map (moved_to id front) qs))) (there ∙ other)
    ∙ moved_found id front n qs p (sym (ap (λ b. cond b (Some q) (find (is_named n) qs)) other) ∙ found))
    (cases_Bool (is_named n q))

-- one pin of a name that is the party's own goes upwards, to at most the archived front that the party knows
pub pins_moved : (archived : ℕ) (own : ℕ → Bool) (old new : PartState) (id front : ℕ) → new.pins ≡ map (moved_to id front) old.pins → own id ≡ true
    → All (λ pin. is_named id pin ≡ true → pin.front ≤ front) old.pins → front ≤ archived → new.cut ≤ old.cut → All (λ pin. old.cut ≤ pin.front) old.pins
    → AreNamed old.pins
    → KeepsPins archived own old new
pins_moved archived own old new id front same mine below up_to cut from names =
    let found = all_found old.pins names in
    let moved = moved_to id front in
    record {
      cut_pins = subst (All (λ pin. new.cut ≤ pin.front)) (sym same)
          (All-map (λ pin. new.cut ≤ pin.front) moved old.pins
          (λ k d within. stays_above (get_or old.pins k d) (from k d within) (below k d within)));
      names = subst AreNamed (sym same)
          (All-map (λ pin. count_by (is_named pin.id) (map moved old.pins) ≡ 1) moved old.pins
          (λ k d within. moved_once (get_or old.pins k d) (names k d within)));
      others = λ k d within other.
          (let pin = get_or old.pins k d in
          ap (find (is_named pin.id)) same ∙ moved_found id front pin.id old.pins pin (found k d within) ∙ ap Some (not_moved pin other));
      pins = subst (All (λ pin. Follows old.cut archived (own pin.id) (find (is_named pin.id) old.pins) pin)) (sym same)
          (All-map (λ pin. Follows old.cut archived (own pin.id) (find (is_named pin.id) old.pins) pin) moved old.pins
          (λ k d within. follows (get_or old.pins k d) (found k d within) (below k d within)));
    }
  where
    stays_above : (pin : Pin) → old.cut ≤ pin.front → (is_named id pin ≡ true → pin.front ≤ front) → new.cut ≤ (moved_to id front pin).front
    stays_above pin low under = of (is_named id pin) under
      where
        of : (b : Bool) → (b ≡ true → pin.front ≤ front) → new.cut ≤ (cond b (record { id = pin.id; front = front }) pin).front
        of true is = let most = is refl in omega arith
        of false is = omega arith

    moved_once : (pin : Pin) → count_by (is_named pin.id) old.pins ≡ 1 → count_by (is_named (moved_to id front pin).id) (map (moved_to id front) old.pins) ≡ 1
    moved_once pin once = of (is_named id pin)
      where
        of : (b : Bool) → count_by (is_named (cond b (record { id = pin.id; front = front }) pin).id) (map (moved_to id front) old.pins) ≡ 1
        of true = moved_counts id front pin.id old.pins ∙ once
        of false = moved_counts id front pin.id old.pins ∙ once

    not_moved : (pin : Pin) → own pin.id ≡ false → moved_to id front pin ≡ pin
    not_moved pin other =
        ⊎_elim (λ (here : is_named id pin ≡ true). absurd (true≢false (sym (ap own (name_same pin.id id here) ∙ mine) ∙ other)))
        (λ (not' : is_named id pin ≡ false). ap (λ b. cond b (record { id = pin.id; front = front }) pin) not') (cases_Bool (is_named id pin))

    follows : (pin : Pin) → find (is_named pin.id) old.pins ≡ Some pin → (is_named id pin ≡ true → pin.front ≤ front)
        → Follows old.cut archived (own (moved_to id front pin).id) (find (is_named (moved_to id front pin).id) old.pins) (moved_to id front pin)
    follows pin found under = of (is_named id pin) refl
      where
        of : (b : Bool) → is_named id pin ≡ b → let q = cond b (record { id = pin.id; front = front }) pin in
            Follows old.cut archived (own q.id) (find (is_named q.id) old.pins) q
        of true is = subst (λ o. Follows old.cut archived (own pin.id) o (record { id = pin.id; front = front })) (sym found)
            (inr (ap own (name_same pin.id id is) ∙ mine, under is, up_to))
        of false is = subst (λ o. Follows old.cut archived (own pin.id) o pin) (sym found) (inl refl)

-- pins but those of a name
abbrev pub is_other : ℕ → Pin → Bool
is_other id pin = not (is_named id pin)

-- a name whose pins all pass a filter stands behind it as before
passed_counts : (test : Pin → Bool) (n : ℕ) (pins : List Pin) → ((pin : Pin) → is_named n pin ≡ true → test pin ≡ true)
    → count_by (is_named n) (filter test pins) ≡ count_by (is_named n) pins
passed_counts test n [] pass = refl
passed_counts test n (q ∷ qs) pass =
    let rest = passed_counts test n qs pass in
    let all = sum_by-cons (λ z. bit_of (is_named n z)) q qs in
    ⊎_elim
    (λ (kept : test q ≡ true). ap (λ b. count_by (is_named n) (cond b (q ∷ filter test qs) (filter test qs))) kept
    ∙ omega (arith, sum_by-cons (λ z. bit_of (is_named n z)) q (filter test qs)))
    (λ (gone : test q ≡ false).
    let not' : is_named n q ≡ false = ⊎_elim (λ is. absurd (true≢false (sym (pass q is) ∙ gone))) (λ no'. no') (cases_Bool (is_named n q)) in
    let none : bit_of (is_named n q) ≡ 0 = ap bit_of not' in
    ap (λ b. count_by (is_named n) (cond b (q ∷ filter test qs) (filter test qs))) gone ∙ omega arith)
    (cases_Bool (test q))

passed_found : (test : Pin → Bool) (n : ℕ) (pins : List Pin) → ((pin : Pin) → is_named n pin ≡ true → test pin ≡ true)
    → find (is_named n) (filter test pins) ≡ find (is_named n) pins
passed_found test n [] pass = refl
passed_found test n (q ∷ qs) pass =
    let rest = passed_found test n qs pass in
    ⊎_elim
    (λ (kept : test q ≡ true). ap (λ b. find (is_named n) (cond b (q ∷ filter test qs) (filter test qs))) kept ∙ ap (λ o. cond (is_named n q) (Some q) o) rest)
    (λ (gone : test q ≡ false).
    let not' : is_named n q ≡ false = ⊎_elim (λ is. absurd (true≢false (sym (pass q is) ∙ gone))) (λ no'. no') (cases_Bool (is_named n q)) in
    ap (λ b. find (is_named n) (cond b (q ∷ filter test qs) (filter test qs))) gone ∙ rest ∙ sym (ap (λ b. cond b (Some q) (find (is_named n) qs)) not'))
    (cases_Bool (test q))

-- the pins of a name that is the party's own are taken out
pub pins_removed : (archived : ℕ) (own : ℕ → Bool) (old new : PartState) (id : ℕ) → new.pins ≡ filter (is_other id) old.pins → own id ≡ true → new.cut ≤ old.cut
    → All (λ pin. old.cut ≤ pin.front) old.pins → AreNamed old.pins → KeepsPins archived own old new
pins_removed archived own old new id same mine cut from names =
    let found = all_found old.pins names in
    let test = is_other id in
    record {
      cut_pins = subst (All (λ pin. new.cut ≤ pin.front)) (sym same)
          (All-filter test (λ pin. new.cut ≤ pin.front) old.pins
          (All-weaker (λ pin. old.cut ≤ pin.front) (λ pin. new.cut ≤ pin.front) (λ pin low. omega arith) old.pins from));
      names = subst AreNamed (sym same)
          (λ k d within.
          (let pin = get_or (filter test old.pins) k d in
          passed_counts test pin.id old.pins (passes pin (filter_passes test old.pins k d within))
          ∙ All-filter test (λ q. count_by (is_named q.id) old.pins ≡ 1) old.pins names k d within));
      others = λ k d within other.
          (let pin = get_or old.pins k d in
          ap (find (is_named pin.id)) same ∙ passed_found test pin.id old.pins (passes pin (not_own pin other)) ∙ found k d within);
      pins = subst (All (λ pin. Follows old.cut archived (own pin.id) (find (is_named pin.id) old.pins) pin)) (sym same)
          (All-filter test (λ pin. Follows old.cut archived (own pin.id) (find (is_named pin.id) old.pins) pin) old.pins
          (All-weaker (λ pin. find (is_named pin.id) old.pins ≡ Some pin) (λ pin. Follows old.cut archived (own pin.id) (find (is_named pin.id) old.pins) pin)
          (λ pin is. subst (λ o. Follows old.cut archived (own pin.id) o pin) (sym is) (inl refl)) old.pins found));
    }
  where
    passes : (pin : Pin) → is_other id pin ≡ true → (q : Pin) → is_named pin.id q ≡ true → is_other id q ≡ true
    passes pin other q is = ap (λ n. not (n == id)) (name_same q.id pin.id is) ∙ other

    not_own : (pin : Pin) → own pin.id ≡ false → is_other id pin ≡ true
    not_own pin other =
        ⊎_elim (λ (here : is_named id pin ≡ true). absurd (true≢false (sym (ap own (name_same pin.id id here) ∙ mine) ∙ other))) (λ no'. ap not no')
        (cases_Bool (is_named id pin))
