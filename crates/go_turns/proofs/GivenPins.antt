-- For callers: which pins of a shard are a seat's after one was put in, moved, or taken away.
use Rattle.std.proofs.Common.{◌≡◌, ◌⊎◌, ◌↔◌, ℕ, Bool, true, false, cond, List, [], ◌∷◌, ◌++◌, map, length, sym, refl, ap, ◌∙◌, inl, inr, ⊎_elim, arith, subst}
use Rattle.std.specs.Prelude.{All, Contains, filter, not, ◌||◌}
use Rattle.std.proofs.lemmas.Bool.{cases_Bool, false≢true, true≢false}
use Rattle.std.proofs.lemmas.List.{get_or-map, length-map}
use Rattle.std.proofs.lemmas.List.Elements.{All-map, All-contains, All-contains_itself, All-weaker, Contains-append_left, Contains-push, Contains-push_cases}
use Rattle.go_word.specs.declared.pin.Pin.{Pin}
use Rattle.go_word.specs.Pins.{is_named, has_name}
use Rattle.go_core.specs.Parts.{AreNamed}
use Rattle.go_core.specs.Pins.{owns_name, is_own_or_new}
use Rattle.go_core.proofs.PinCalls.{moved_to, is_other}
use Rattle.go_core.proofs.PinLaws.{has-in, has-pin}
use Rattle.go_rule.proofs.Lists.{is_number, same_number}
use Rattle.go_turns.proofs.OwnPins.{passing, left, own_unchanged}

-- what stands in a list stands, changed, in the changed list, and all that stands there comes so
module _ {A B : Type 0} (g : A → B) (xs : List A) where
  in_changed : (x : A) → Contains xs x → Contains (map g xs) (g x)
  in_changed x there =
      let long : length (map g xs) ≡ length xs = length-map xs g in
      let within = there.1 in
      (there.0, omega arith, get_or-map g xs there.0 x (g x) there.1 ∙ ap g there.2)

  changed_from : (y : B) → Contains (map g xs) y → (x : A) × Contains xs x × (g x ≡ y)
  changed_from y there =
      All-contains (λ z. (x : A) × Contains xs x × (g x ≡ z)) (map g xs) y
      (All-map (λ z. (x : A) × Contains xs x × (g x ≡ z)) g xs
      (All-weaker (Contains xs) (λ w. (x : A) × Contains xs x × (g x ≡ g w)) (λ w is. (w, is, refl)) xs (All-contains_itself xs))) there

-- a pin that is moved, by whether it has the name
is_moved : (id front : ℕ) (b : Bool) (pin : Pin) → is_named id pin ≡ b → moved_to id front pin ≡ cond b (record { id = id; front = front }) pin
is_moved id front true pin is =
    ap (λ b. cond b (record { id = pin.id; front = front }) pin) is ∙ ap (λ n. record { id = n; front = front }) (is_number pin.id id is)
is_moved id front false pin is = ap (λ b. cond b (record { id = pin.id; front = front }) pin) is

moved_name : (id front : ℕ) (pin : Pin) → (moved_to id front pin).id ≡ pin.id
moved_name id front pin = of (is_named id pin)
  where
    of : (b : Bool) → (cond b (record { id = pin.id; front = front }) pin).id ≡ pin.id
    of true = refl
    of false = refl

-- by pins that a seat had of a shard, all of them there
module _ (mine held : List Pin) (names : AreNamed held) (has : All (Contains held) mine) where
  -- which of the shard's pins are its own
  abbrev own : Pin → Bool
  own = is_own_or_new mine [] held

  -- a pin of the shard that is its own it had, and what it had is its own
  was_own : (pin : Pin) → Contains held pin → own pin ≡ true → Contains mine pin
  was_own pin there is = (own_unchanged mine held names has pin).0 (left own held pin there is)

  still_own : (pin : Pin) → Contains mine pin → Contains held pin × (own pin ≡ true)
  still_own pin there = passing own held pin ((own_unchanged mine held names has pin).1 there)

  -- a name that the shard hasn't, the seat hasn't
  pub none_own : (id : ℕ) → has_name id held ≡ false → has_name id mine ≡ false
  none_own id fresh =
      ⊎_elim
      (λ (named : has_name id mine ≡ true).
      let one = has-pin id mine named in
      absurd (true≢false (sym (ap (λ n. has_name n held) (sym one.2) ∙ has-in held one.0 (All-contains (Contains held) mine one.0 has one.1)) ∙ fresh)))
      (λ none. none) (cases_Bool (has_name id mine))

  -- one pin more, of a name that none had, is its own
  pub own_added : (pin : Pin) → has_name pin.id held ≡ false → (x : Pin) → Contains (filter own (held ++ pin ∷ [])) x ↔ (Contains mine x ⊎ (x ≡ pin))
  own_added pin fresh x = (out, into)
    where
      either_true : (b : Bool) → (b || true) ≡ true
      either_true true = refl
      either_true false = refl

      new : own pin ≡ true
      new = ap (λ b. owns_name pin.id mine [] || not b) fresh ∙ either_true (owns_name pin.id mine [])

      out : Contains (filter own (held ++ pin ∷ [])) x → Contains mine x ⊎ (x ≡ pin)
      out there =
          let both = passing own (held ++ pin ∷ []) x there in
          ⊎_elim (λ (old : Contains held x). inl (was_own x old both.1)) (λ (same : pin ≡ x). inr (sym same)) (Contains-push_cases held pin x both.0)

      into : Contains mine x ⊎ (x ≡ pin) → Contains (filter own (held ++ pin ∷ [])) x
      into either =
          ⊎_elim
          (λ (old : Contains mine x).
          let both = still_own x old in
          left own (held ++ pin ∷ []) x (Contains-append_left held (pin ∷ []) x both.0) both.1)
          (λ (same : x ≡ pin).
          subst (Contains (filter own (held ++ pin ∷ []))) (sym same) (left own (held ++ pin ∷ []) pin (Contains-push held pin) new)) either

  -- its pin of a name was moved
  pub own_moved : (id front : ℕ) → has_name id mine ≡ true → (x : Pin) → Contains (filter own (map (moved_to id front) held)) x
      ↔ ((Contains mine x × (is_named id x ≡ false)) ⊎ (x ≡ record { id = id; front = front }))
  own_moved id front named x = (out, into)
    where
      pin : Pin
      pin = record { id = id; front = front }

      own_same : (y : Pin) → own (moved_to id front y) ≡ own y
      own_same y = ap (λ n. owns_name n mine [] || not (has_name n held)) (moved_name id front y)

      out : Contains (filter own (map (moved_to id front) held)) x → (Contains mine x × (is_named id x ≡ false)) ⊎ (x ≡ pin)
      out there =
          let both = passing own (map (moved_to id front) held) x there in
          let from = changed_from (moved_to id front) held x both.0 in
          ⊎_elim (λ (is : is_named id from.0 ≡ true). inr (sym from.2 ∙ is_moved id front true from.0 is))
          (λ (other : is_named id from.0 ≡ false).
          let same : from.0 ≡ x = sym (is_moved id front false from.0 other) ∙ from.2 in
          inl (was_own x (subst (Contains held) same from.1) both.1, sym (ap (is_named id) same) ∙ other))
          (cases_Bool (is_named id from.0))

      put : (y : Pin) → Contains mine y → Contains (filter own (map (moved_to id front) held)) (moved_to id front y)
      put y there =
          let both = still_own y there in
          left own (map (moved_to id front) held) (moved_to id front y) (in_changed (moved_to id front) held y both.0) (own_same y ∙ both.1)

      into : (Contains mine x × (is_named id x ≡ false)) ⊎ (x ≡ pin) → Contains (filter own (map (moved_to id front) held)) x
      into either =
          ⊎_elim
          (λ (old : Contains mine x × (is_named id x ≡ false)).
          subst (Contains (filter own (map (moved_to id front) held))) (is_moved id front false x old.1) (put x old.0))
          (λ (same : x ≡ pin).
          let one = has-pin id mine named in
          let is : is_named id one.0 ≡ true = ap (is_named id) (λ k. record one.0 { id = one.2 k }) ∙ same_number id in
          subst (Contains (filter own (map (moved_to id front) held))) (is_moved id front true one.0 is ∙ sym same) (put one.0 one.1)) either

  -- its pin of a name was taken away
  pub own_removed : (id : ℕ) (x : Pin) → Contains (filter own (filter (is_other id) held)) x ↔ (Contains mine x × (is_named id x ≡ false))
  own_removed id x = (out, into)
    where
      no' : (b : Bool) → not b ≡ true → b ≡ false
      no' true is = absurd (false≢true is)
      no' false is = refl

      out : Contains (filter own (filter (is_other id) held)) x → Contains mine x × (is_named id x ≡ false)
      out there =
          let both = passing own (filter (is_other id) held) x there in
          let other = passing (is_other id) held x both.0 in
          (was_own x other.0 both.1, no' (is_named id x) other.1)

      into : Contains mine x × (is_named id x ≡ false) → Contains (filter own (filter (is_other id) held)) x
      into old =
          let both = still_own x old.0 in
          left own (filter (is_other id) held) x (left (is_other id) held x both.0 (ap not old.1)) both.1
