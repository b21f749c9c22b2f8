-- Words that are copied ahead of their turn: what a seat goes on to know, and which words the buffer holds.
use Rattle.std.proofs.Common.{◌≡◌, ◌⊎◌, ℕ, ◌+◌, ◌-◌, ◌%◌, ◌<◌, ◌≤◌, ◌≢◌, min, max, Bool, true, false, cond, List, [], ◌∷◌, ◌++◌, map, length, set, take}
use Rattle.std.proofs.Common.{slice_index, sym, refl, ap, ◌∙◌, inl, inr, ⊎_elim, arith, subst, nat_le, ◌||◌}
use Rattle.std.specs.Prelude.{Contains}
use Rattle.std.proofs.Math.Seq.{take-length}
use Rattle.std.proofs.Math.Nat.{mod-lt}
use Rattle.std.proofs.lemmas.Bool.{cases_lt}
use Rattle.std.proofs.lemmas.List.{get_or-map, length-map, take-take}
use Rattle.std.proofs.lemmas.List.Elements.{Contains-append_left, Contains-push}
use Rattle.atomic_table.specs.Table.{Me, Step}
use Rattle.go_word.specs.declared.edge.Edge.{Edge}
use Rattle.go_word.specs.Word.{is_matched}
use Rattle.go_core.specs.declared.entry.Load.{Load}
use Rattle.go_core.specs.declared.part.PartState.{PartState}
use Rattle.go_core.specs.Frame.{Frame}
use Rattle.go_core.specs.View.{assured}
use Rattle.go_core.proofs.Moved.{word_other, word_here}
use Rattle.go_core.proofs.Laps.{place-apart}
use Rattle.go_rule.specs.declared.view.SeatView.{SeatView}
use Rattle.go_rule.specs.Views.{with_head, with_archived, with_durable, with_ending, with_ahead}
use Rattle.go_rule.specs.Steps.{LoadsHead, LoadsArchived, LoadsDurable, LoadsEnding, ReadAhead}
use Rattle.go_rule.proofs.Beginnings.{begins_within}
use Rattle.go_ring.specs.Copies.{but_copied, GoesOn, IsGap}
use Rattle.go_ring.specs.Reads.{HasWord, Held, ReadsOnly, StopsAt}

-- what stands in a list stands, changed, in the changed list
pub contains_map : {A B : Type 0} (g : A → B) (xs : List A) (x : A) → Contains xs x → Contains (map g xs) (g x)
contains_map g xs x there =
    let long : length (map g xs) ≡ length xs = length-map xs g in
    let within = there.1 in (
      there.0,
      omega arith,
      get_or-map g xs there.0 x (g x) there.1 ∙ ap g there.2,
    )

-- a word that the buffer holds, and a gap, last while a front is loaded
pub word_lasts : (slots front p : ℕ) (loads : List Load) (buf : List ℕ) → HasWord slots loads buf p → HasWord slots (map (assured front) loads) buf p
word_lasts slots front p loads buf h = record {
  load = assured front h.load;
  there = contains_map (assured front) loads h.load h.there;
  at = h.at;
  word = h.word;
  matched = h.matched;
}

pub gap_lasts : (slots front p : ℕ) (loads : List Load) → IsGap slots loads p → IsGap slots (map (assured front) loads) p
gap_lasts slots front p loads h = record {
  load = assured front h.load;
  there = contains_map (assured front) loads h.load h.there;
  at = h.at;
  unmatched = h.unmatched;
}

-- two positions less than a lap apart have two places in the buffer
apart : (slots low p q : ℕ) → low ≤ q → q < p → p < low + slots → q % slots ≢ p % slots
apart slots low p q from less lap same =
    place-apart (record { slots = slots; base = 0; first = 0 }) low q p from (omega arith) (omega arith) lap (λ is. absurd (omega arith)) (ap (λ k. 0 + k) same)

module _ {P : Type 0} where
  -- a seat goes on from where it is
  pub goes_same : (d : SeatView P) → GoesOn d d
  goes_same d = record {
    rest = refl;
    begins = sym (take-length d.told.seen);
    head = omega arith;
    archived = omega arith;
    durable = omega arith;
    seen = omega arith;
    passed = omega arith;
  }

  -- and from where it went on to
  pub goes_then : (d e h : SeatView P) → GoesOn d e → GoesOn e h → GoesOn d h
  goes_then d e h one two =
      let within : length d.told.seen ≤ length e.told.seen = begins_within e.told.seen d.told.seen one.begins in
      let head1 = one.head in
      let head2 = two.head in
      let archived1 = one.archived in
      let archived2 = two.archived in
      let durable1 = one.durable in
      let durable2 = two.durable in
      let seen1 = one.seen in
      let seen2 = two.seen in
      let passed1 = one.passed in
      let passed2 = two.passed in
      record {
        rest = two.rest ∙ one.rest;
        begins = one.begins ∙ ap (take (length d.told.seen)) two.begins ∙ take-take (length d.told.seen) (length e.told.seen) h.told.seen within;
        head = omega arith;
        archived = omega arith;
        durable = omega arith;
        seen = omega arith;
        passed = omega arith;
      }

  -- by words that are read ahead
  pub goes_reading : (d e : SeatView P) → ReadsOnly d e → GoesOn d e
  goes_reading d e only =
      let head1 = only.head in
      let archived1 = only.archived in
      let durable1 = only.durable in
      let seen1 = only.seen in
      record {
        rest = only.rest;
        begins = sym (take-length d.told.seen) ∙ ap (take (length d.told.seen)) (sym only.told);
        head = omega arith;
        archived = omega arith;
        durable = omega arith;
        seen = omega arith;
        passed = only.passed;
      }

  module _ {S : Type 0} where
    -- by a load of the length
    pub goes_head : (f : Frame) {step : Step S} (me now : Me S (SeatView P)) (n : ℕ) → LoadsHead f step me n now → GoesOn me.0 now.0
    goes_head f me now n l =
        subst (λ (z : Me S (SeatView P)). GoesOn me.0 z.0) (sym l.becomes)
        (record {
          rest = refl;
          begins = sym (take-length me.0.told.seen);
          head = l.known;
          archived = omega arith;
          durable = omega arith;
          seen = omega arith;
          passed = omega arith;
        })

    -- by a load of the archived front
    pub goes_archived : (state_of : P → PartState) (f : Frame) {step : Step S} (me now : Me S (SeatView P)) (n : ℕ) → LoadsArchived state_of f step me n now
        → GoesOn me.0 now.0
    goes_archived state_of f me now n l =
        subst (λ (z : Me S (SeatView P)). GoesOn me.0 z.0) (sym l.becomes)
        (record {
          rest = refl;
          begins = l.sees.begins;
          head = omega arith;
          archived = l.front.known_to;
          durable = omega arith;
          seen = omega arith;
          passed = omega arith;
        })

    -- by a load of the durable front
    pub goes_durable : (f : Frame) {step : Step S} (me now : Me S (SeatView P)) (n : ℕ) → LoadsDurable f step me n now → GoesOn me.0 now.0
    goes_durable f me now n l =
        subst (λ (z : Me S (SeatView P)). GoesOn me.0 z.0) (sym l.becomes)
        (record {
          rest = refl;
          begins = l.sees.begins;
          head = omega arith;
          archived = omega arith;
          durable = l.front.known_to;
          seen = omega arith;
          passed = omega arith;
        })

    -- and by one at the end of a copy
    pub goes_ending : (f : Frame) (end : ℕ) {step : Step S} (me now : Me S (SeatView P)) (n : ℕ) → LoadsEnding f end step me n now → GoesOn me.0 now.0
    goes_ending f end me now n l =
        subst (λ (z : Me S (SeatView P)). GoesOn me.0 z.0) (sym l.becomes)
        (record {
          rest = refl;
          begins = l.sees.begins;
          head = omega arith;
          archived = omega arith;
          durable = l.front.known_to;
          seen = omega arith;
          passed = omega arith;
        })

    -- by words that are read ahead, and a load of the archived front after them
    pub goes_to_front : (state_of : P → PartState) (f : Frame) {step : Step S} (me now : Me S (SeatView P)) (n : ℕ) (c d : SeatView P) → GoesOn c d
        → ReadsOnly d me.0 → LoadsArchived state_of f step me n now → GoesOn c now.0
    goes_to_front state_of f me now n c d on only l =
        goes_then c me.0 now.0 (goes_then c d me.0 on (goes_reading d me.0 only)) (goes_archived state_of f me now n l)

    -- one more word was read ahead
    pub only_next : (slots p word : ℕ) (d : SeatView P) (me now : Me S (SeatView P)) → ReadsOnly d me.0 → ReadAhead slots p me word now → ReadsOnly d now.0
    only_next slots p word d me now only l =
        let passed1 = only.passed in
        let passed2 = l.passed_to in
        subst (λ (z : Me S (SeatView P)). ReadsOnly d z.0) (sym l.becomes)
        (record {
          rest = only.rest;
          told = only.told;
          head = only.head;
          archived = only.archived;
          durable = only.durable;
          seen = only.seen;
          passed = omega arith;
          fresh = λ stale. refl;
        })

    -- it was matched, and was put into the buffer
    pub held_next : (slots p word : ℕ) (me now : Me S (SeatView P)) (buf : List ℕ) → ReadAhead slots p me word now → is_matched slots p word ≡ true
        → length buf ≡ slots → 0 < slots → p < min me.0.core.archived me.0.core.durable + slots → Held slots me.0.core buf p
        → Held slots now.0.core (set buf (p % slots) word) (p + 1)
    held_next slots p word me now buf l matched long some' lap held =
        subst (λ (z : Me S (SeatView P)). Held slots z.0.core (set buf (p % slots) word) (p + 1)) (sym l.becomes) more
      where
        last : Load
        last = record { at = p; word = word; sure = false }

        more : Held slots (with_ahead p word l.released me.0).core (set buf (p % slots) word) (p + 1)
        more q from less =
            ⊎_elim
            (λ (below : q < p).
            let h = held q from below in
            record {
              load = h.load;
              there = Contains-append_left me.0.core.loads (last ∷ []) h.load h.there;
              at = h.at;
              word = h.word ∙ sym (word_other buf (p % slots) (q % slots) word (apart slots (min me.0.core.archived me.0.core.durable) p q from below lap));
              matched = h.matched;
            })
            (λ (over : p ≤ q).
            let small : p % slots < slots = mod-lt p some' in
            let same : p ≡ q = omega arith in
            subst (λ (k : ℕ). HasWord slots (me.0.core.loads ++ last ∷ []) (set buf (p % slots) word) k) same
            (record {
              load = last;
              there = Contains-push me.0.core.loads last;
              at = refl;
              word = sym (word_here buf (p % slots) word (omega arith));
              matched = matched;
            })) (cases_lt q p)

    -- or it wasn't
    pub stops_next : (slots p word to : ℕ) (me now : Me S (SeatView P)) → ReadAhead slots p me word now → is_matched slots p word ≡ false → p < to
        → StopsAt slots now.0 p to
    stops_next slots p word to me now l unmatched below =
        subst (λ (z : Me S (SeatView P)). StopsAt slots z.0 p to) (sym l.becomes)
        (record {
          gap =
              record {
                load = record { at = p; word = word; sure = false };
                there = Contains-push me.0.core.loads (record { at = p; word = word; sure = false });
                at = refl;
                unmatched = unmatched;
              };
          gone = l.gone unmatched;
          below = below;
        })

    -- what was held is still held, where nothing but words was read
    pub held_read : (slots p word next : ℕ) (me now : Me S (SeatView P)) (buf : List ℕ) → ReadAhead slots p me word now → Held slots me.0.core buf next
        → Held slots now.0.core buf next
    held_read slots p word next me now buf l held =
        subst (λ (z : Me S (SeatView P)). Held slots z.0.core buf next) (sym l.becomes)
        (λ q from less.
        let h = held q from less in
        record {
          load = h.load;
          there = Contains-append_left me.0.core.loads (record { at = p; word = word; sure = false } ∷ []) h.load h.there;
          at = h.at;
          word = h.word;
          matched = h.matched;
        })
