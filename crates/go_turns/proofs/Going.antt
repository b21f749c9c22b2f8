-- For callers: a seat has gone on after each step of the ring, and after a part that it took was given back with the pins that it had.
use Rattle.std.proofs.Common.{◌≡◌, ◌≢◌, ◌↔◌, ℕ, ◌≤◌, true, false, List, [], length, take_all, sym, refl, ap, ◌∙◌, ⊎_elim, arith, subst}
use Rattle.std.specs.Prelude.{All, Contains, filter, nat_lt, ◌||◌, ◌==◌, Option as Maybe}
use Rattle.std.proofs.lemmas.Bool.{cases_Bool}
use Rattle.std.proofs.lemmas.Bool.Decides.{nat_tests}
use Rattle.std.proofs.lemmas.List.Elements.{All-weaker, All-contains, All-contains_itself}
use Rattle.atomic_table.specs.Table.{Me, Step}
use Rattle.go_word.specs.declared.edge.Edge.{Edge}
use Rattle.go_word.specs.declared.pin.Pin.{Pin}
use Rattle.go_core.specs.declared.part.PartState.{PartState}
use Rattle.go_core.specs.Frame.{Frame}
use Rattle.go_core.specs.Parts.{IsShardPlace}
use Rattle.go_core.specs.Pins.{is_own_or_new}
use Rattle.go_rule.specs.declared.view.Note.{Note}
use Rattle.go_rule.specs.declared.view.SeatView.{SeatView}
use Rattle.go_rule.specs.Meaning.{Meaning}
use Rattle.go_rule.specs.Rule.{Begins, pins_at}
use Rattle.go_rule.specs.Steps.{LoadsHead, LoadsArchived, LoadsDurable, LoadsFlag, StoresArchived, StoresDurable}
use Rattle.go_rule.specs.Turns.{giving, own_pins, taking}
use Rattle.go_rule.specs.Views.{with_head, with_archived, with_durable, with_flag, with_unmoved, with_archiving, with_flushing}
use Rattle.go_rule.proofs.Lists.{is_number}
use Rattle.go_rule.proofs.TurnPins.{pins_here, pins_else}
use Rattle.go_turns.specs.Going.{but_known, KnowsMore, SamePins, HasGoneOn}
use Rattle.go_turns.specs.Holding.{Takes, Gives}
use Rattle.go_turns.proofs.Handing.{told_of, view_is, holds_on}
use Rattle.go_turns.proofs.Later.{begins_before}
use Rattle.go_turns.proofs.OwnPins.{own_unchanged}

-- a log begins with itself
begins_itself : (log : List Edge) → Begins log log
begins_itself log = sym (take_all (length log) log (omega arith))

module _ {P : Type 0} where
  -- by each of its numbers a seat knows no less
  knows_by : (d e : SeatView P) → Begins e.told.seen d.told.seen → d.core.seen ≤ e.core.seen → d.core.taken ≤ e.core.taken → d.core.head ≤ e.core.head
      → d.core.archived ≤ e.core.archived → d.core.durable ≤ e.core.durable → d.told.passed ≤ e.told.passed
      → (d.told.flagged ≡ true → e.told.flagged ≡ true) → KnowsMore d e
  knows_by d e begins seen taken head archived durable passed flagged =
      record {
        begins = begins;
        seen = seen;
        taken = taken;
        head = head;
        archived = archived;
        durable = durable;
        passed = passed;
        flagged = flagged;
      }

  -- a seat has the pins that it has
  same_itself : (f : Frame) (d : SeatView P) → SamePins f d d
  same_itself f d place here pin = (λ there. there, λ there. there)

  -- a seat that did nothing
  pub gone_nowhere : (f : Frame) (d : SeatView P) → HasGoneOn f d d
  gone_nowhere f d =
      record {
        knows =
            knows_by d d (begins_itself d.told.seen) (omega arith) (omega arith) (omega arith) (omega arith) (omega arith) (omega arith) (λ is. is);
        rest = refl;
        pins = same_itself f d;
      }

  -- and one that went on twice
  pub knows_further : (d e g : SeatView P) → KnowsMore d e → KnowsMore e g → KnowsMore d g
  knows_further d e g one two =
      let seen1 = one.seen in
      let seen2 = two.seen in
      let taken1 = one.taken in
      let taken2 = two.taken in
      let head1 = one.head in
      let head2 = two.head in
      let archived1 = one.archived in
      let archived2 = two.archived in
      let durable1 = one.durable in
      let durable2 = two.durable in
      let passed1 = one.passed in
      let passed2 = two.passed in
      record {
        begins = begins_before g.told.seen e.told.seen d.told.seen one.begins two.begins;
        seen = omega arith;
        taken = omega arith;
        head = omega arith;
        archived = omega arith;
        durable = omega arith;
        passed = omega arith;
        flagged = λ is. two.flagged (one.flagged is);
      }

  pub gone_further : (f : Frame) (d e g : SeatView P) → HasGoneOn f d e → HasGoneOn f e g → HasGoneOn f d g
  gone_further f d e g one two =
      record {
        knows = knows_further d e g one.knows two.knows;
        rest = two.rest ∙ one.rest;
        pins =
            λ place here pin.
            let first = one.pins place here pin in
            let second = two.pins place here pin in
            (λ there. first.0 (second.0 there), λ there. second.1 (first.1 there));
      }

  -- after a step that told it nothing
  pub gone_unmoved : (f : Frame) (d : SeatView P) → HasGoneOn f d (with_unmoved d)
  gone_unmoved f d =
      record {
        knows =
            knows_by d (with_unmoved d) (begins_itself d.told.seen) (omega arith) (omega arith) (omega arith) (omega arith) (omega arith) (omega arith) (λ is. is);
        rest = refl;
        pins = same_itself f d;
      }

  module _ {S : Type 0} (f : Frame) (step : Step S) (me now : Me S (SeatView P)) (n : ℕ) where
    -- the length was loaded
    pub gone_head : LoadsHead f step me n now → HasGoneOn f me.0 now.0
    gone_head loads =
        let known = loads.known in
        subst (HasGoneOn f me.0) (sym (ap (λ z. z.0) loads.becomes))
        (record {
          knows = knows_by me.0 (with_head n me.0) (begins_itself me.0.told.seen) (omega arith) (omega arith) known (omega arith) (omega arith) (omega arith) (λ is. is);
          rest = refl;
          pins = same_itself f me.0;
        })

    -- the archived front was
    pub gone_archived : (state_of : P → PartState) → LoadsArchived state_of f step me n now → HasGoneOn f me.0 now.0
    gone_archived state_of loads =
        let known = loads.front.known_to in
        subst (HasGoneOn f me.0) (sym (ap (λ z. z.0) loads.becomes))
        (record {
          knows = knows_by me.0 (with_archived n loads.seen me.0) loads.sees.begins (omega arith) (omega arith) (omega arith) known (omega arith) (omega arith) (λ is. is);
          rest = refl;
          pins = same_itself f me.0;
        })

    -- the durable front was
    pub gone_durable : LoadsDurable f step me n now → HasGoneOn f me.0 now.0
    gone_durable loads =
        let known = loads.front.known_to in
        subst (HasGoneOn f me.0) (sym (ap (λ z. z.0) loads.becomes))
        (record {
          knows = knows_by me.0 (with_durable n loads.seen me.0) loads.sees.begins (omega arith) (omega arith) (omega arith) (omega arith) known (omega arith) (λ is. is);
          rest = refl;
          pins = same_itself f me.0;
        })

    -- the flag was
    pub gone_flag : LoadsFlag step me n now → HasGoneOn f me.0 now.0
    gone_flag loads =
        subst (HasGoneOn f me.0) (sym (ap (λ z. z.0) loads.becomes))
        (record {
          knows = knows_by me.0 (with_flag n me.0) (begins_itself me.0.told.seen) (omega arith) (omega arith) (omega arith) (omega arith) (omega arith) (omega arith) (λ is. ap (λ b. b || nat_lt 0 n) is);
          rest = refl;
          pins = same_itself f me.0;
        })

    -- the archived front was stored, further on
    pub gone_archiving : me.0.core.archived ≤ n → StoresArchived step me n now → HasGoneOn f me.0 now.0
    gone_archiving onward stores =
        subst (HasGoneOn f me.0) (sym (ap (λ z. z.0) stores))
        (record {
          knows = knows_by me.0 (with_archiving n me.0) (begins_itself me.0.told.seen) (omega arith) (omega arith) (omega arith) onward (omega arith) (omega arith) (λ is. is);
          rest = refl;
          pins = same_itself f me.0;
        })

    -- the durable front was
    pub gone_flushing : me.0.core.durable ≤ n → StoresDurable step me n now → HasGoneOn f me.0 now.0
    gone_flushing onward stores =
        subst (HasGoneOn f me.0) (sym (ap (λ z. z.0) stores))
        (record {
          knows = knows_by me.0 (with_flushing n me.0) (begins_itself me.0.told.seen) (omega arith) (omega arith) (omega arith) (omega arith) onward (omega arith) (λ is. is);
          rest = refl;
          pins = same_itself f me.0;
        })

-- numbers that differ by a test
not_number : (a b : ℕ) → (a == b) ≡ false → a ≢ b
not_number a b ne e = grind (arith, nat_tests)

-- two equivalences, one after the other
both_ways : {A B C : Type 0} → A ↔ B → B ↔ C → A ↔ C
both_ways one two = (λ a. two.0 (one.0 a), λ c. one.1 (two.1 c))

-- a view with these notes
abbrev noting : {P : Type 0} → List (Note P) → SeatView P → SeatView P
noting notes d = record d { stake = record d.stake { notes = notes } }

module _ {P : Type 0} (m : Meaning P) (f : Frame) (place : ℕ) (old new : P) (me now then after : Me (Maybe P) (SeatView P)) where
  -- a seat that took a part, went on with it in its hand, and gave it back as another, knows no less, and has in its hand what it had; of the part's pins
  -- it has those that are its own, and in other places the ones that it had
  pub record HasGiven : Type 0 where
    pub knows : KnowsMore me.0 after.0
    pub rest : but_known after.0 ≡ but_known me.0
    pub hand : after.1 ≡ me.1
    pub here : pins_at place after.0 ≡ filter (is_own_or_new (pins_at place then.0) [] (m.state_of old).pins) (m.state_of new).pins
    pub elsewhere : (other : ℕ) → (other == place) ≡ false → pins_at other after.0 ≡ pins_at other then.0

  pub gave_other : Takes m f place old me now → HasGoneOn f now.0 then.0 → then.1 ≡ now.1 → Gives m place new then after → HasGiven
  gave_other takes on hand gives =
      let notes : then.0.stake.notes ≡ now.0.stake.notes = ap (λ d. d.stake.notes) on.rest in
      let gave : after ≡ (given, me.1) = gives old me.0.stake.notes me.1 (holds_on place old me.0.stake.notes me.1 now then notes hand takes.holds) in
      let view : now.0 ≡ taking place old me.0 = view_is m f place old me now takes in
      let pins : List Pin = own_pins place then.0 (m.state_of old).pins (m.state_of new).pins in
      let first : KnowsMore me.0 now.0 = subst (KnowsMore me.0) (sym view)
      (knows_by me.0 (taking place old me.0) (begins_itself me.0.told.seen) (omega arith) (omega arith) (omega arith) (omega arith) (omega arith) (omega arith) (λ is. is)) in
      let last : KnowsMore then.0 given =
      knows_by then.0 given (begins_itself then.0.told.seen) (omega arith) (omega arith) (omega arith) (omega arith) (omega arith) (omega arith) (λ is. is) in
      record {
        knows = subst (KnowsMore me.0) (sym (ap (λ z. z.0) gave)) (knows_further me.0 then.0 given (knows_further me.0 now.0 then.0 first on.knows) last);
        rest = ap (λ z. but_known z.0) gave ∙ ap (noting me.0.stake.notes) (on.rest ∙ ap but_known view);
        hand = ap (λ z. z.1) gave;
        here = ap (λ z. pins_at place z.0) gave ∙ pins_here place pins then.0.stake.pins;
        elsewhere = λ other ne. ap (λ z. pins_at other z.0) gave ∙ pins_else place other pins then.0.stake.pins (not_number other place ne);
      }
    where
      given : SeatView P
      given = giving (record { place = place; part = old }) me.0.stake.notes (m.state_of old) (m.state_of new) then.0

  -- of a shard with the pins that it had, its pins are the ones that it had
  pub gave_back : Takes m f place old me now → HasGoneOn f now.0 then.0 → then.1 ≡ now.1 → Gives m place new then after
      → (IsShardPlace f place → (m.state_of new).pins ≡ (m.state_of old).pins) → HasGoneOn f me.0 after.0 × (after.1 ≡ me.1)
  gave_back takes on hand gives same =
      let given : HasGiven = gave_other takes on hand gives in (
        record {
          knows = given.knows;
          rest = given.rest;
          pins = λ other here pin.
              ⊎_elim
              (λ (is : (other == place) ≡ true).
              subst (λ k. IsShardPlace f k → Contains (pins_at k after.0) pin ↔ Contains (pins_at k me.0) pin) (sym (is_number other place is))
              (at_place given pin) here)
              (λ (ne : (other == place) ≡ false).
              subst (λ pins. Contains pins pin ↔ Contains (pins_at other me.0) pin) (sym (given.elsewhere other ne)) (meanwhile other here pin))
              (cases_Bool (other == place));
        },
        given.hand,
      )
    where
      -- with the part in hand the pins were as before
      meanwhile : (other : ℕ) → IsShardPlace f other → (pin : Pin) → Contains (pins_at other then.0) pin ↔ Contains (pins_at other me.0) pin
      meanwhile other here pin =
          subst (λ d. Contains (pins_at other then.0) pin ↔ Contains (pins_at other d) pin) (view_is m f place old me now takes) (on.pins other here pin)

      at_place : HasGiven → (pin : Pin) → IsShardPlace f place → Contains (pins_at place after.0) pin ↔ Contains (pins_at place me.0) pin
      at_place given pin here =
          let shard = (told_of m f place old me now takes).shard here in
          let mine : List Pin = pins_at place then.0 in
          let held : List Pin = (m.state_of old).pins in
          let has : All (Contains held) mine = All-weaker (Contains mine) (Contains held)
          (λ p there. All-contains (Contains held) (pins_at place me.0) p shard.pins ((meanwhile place here p).0 there)) mine (All-contains_itself mine)
          in
          let is : pins_at place after.0 ≡ filter (is_own_or_new mine [] held) held = given.here ∙ ap (filter (is_own_or_new mine [] held)) (same here) in
          subst (λ pins. Contains pins pin ↔ Contains (pins_at place me.0) pin) (sym is)
          (both_ways (own_unchanged mine held shard.in_hand.names has pin) (meanwhile place here pin))
