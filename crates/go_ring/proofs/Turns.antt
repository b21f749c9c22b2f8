-- The turns of a copy: what holds before its words are read, after the archived front is loaded, and at its end.
use Rattle.std.proofs.Common.{◌≡◌, ◌⊎◌, ℕ, ◌+◌, ◌-◌, ◌<◌, ◌≤◌, min, max, true, false, List, [], map, length, sym, refl, ap, ◌∙◌, inl, inr, ⊎_elim, arith, subst}
use Rattle.std.proofs.Common.{Bool, cond, nat_le, ◌||◌}
use Rattle.std.proofs.lemmas.Bool.{cases_lt}
use Rattle.std.proofs.lemmas.Bool.Decides.{nat_tests}
use Rattle.atomic_table.specs.Table.{Me, Step}
use Rattle.go_core.specs.declared.entry.Load.{Load}
use Rattle.go_core.specs.declared.part.PartState.{PartState}
use Rattle.go_core.specs.Frame.{Frame}
use Rattle.go_core.specs.View.{assured}
use Rattle.go_rule.specs.declared.view.SeatView.{SeatView}
use Rattle.go_rule.specs.Views.{with_head, with_archived, with_durable}
use Rattle.go_rule.specs.Steps.{LoadsHead, LoadsArchived, LoadsDurable}
use Rattle.go_ring.specs.Copies.{GoesOn, IsGap}
use Rattle.go_ring.specs.Reads.{HasWord, Held, ReadsOnly, StopsAt, Reads, CanCopy}
use Rattle.go_ring.proofs.Copying.{contains_map, word_lasts, gap_lasts, goes_same, goes_then, goes_reading, goes_head, goes_archived, goes_durable}

-- a word that the buffer holds was loaded before the archived front, so that it is sure from there on
pub record HasSureWord (slots : ℕ) (loads : List Load) (buf : List ℕ) (front p : ℕ) : Type 0 where
  pub held : HasWord slots loads buf p
  pub sure : front ≤ p → held.load.sure ≡ true

-- a word that is held is sure once a front at or below it is loaded
sure_word : (slots front p : ℕ) (loads : List Load) (buf : List ℕ) → HasWord slots loads buf p → HasSureWord slots (map (assured front) loads) buf front p
sure_word slots front p loads buf h = record {
  held =
      record {
        load = assured front h.load;
        there = contains_map (assured front) loads h.load h.there;
        at = h.at;
        word = h.word;
        matched = h.matched;
      };
  sure = λ below. late h.load (subst (λ k. front ≤ k) (sym h.at) below);
}
  where
    or_true : (a b : Bool) → b ≡ true → (a || b) ≡ true
    or_true true b is = refl
    or_true false b is = is

    at_most : (a b : ℕ) → a ≤ b → nat_le a b ≡ true
    at_most a b less = grind (arith, nat_tests)

    late : (l : Load) → front ≤ l.at → (l.sure || nat_le front l.at) ≡ true
    late l less = or_true l.sure (nat_le front l.at) (at_most front l.at less)

module _ {P : Type 0} where
  -- what was released at first, a lap before all that the copy may read
  pub record IsLap (slots from : ℕ) (d e : SeatView P) : Type 0 where
    pub lap : d.core.seen ≤ from + slots
    pub within : d.core.seen ≤ e.core.head
    pub first : min d.core.archived d.core.durable ≤ from
    pub onward : from ≤ min e.core.archived e.core.durable

  -- the next position of a copy, as a turn begins
  pub record IsNext (slots from : ℕ) (e : SeatView P) (next : ℕ) : Type 0 where
    pub below : next < from + slots
    pub within : next ≤ e.core.head
    pub low : min e.core.archived e.core.durable ≤ next
    pub known : e.core.archived ≤ e.core.head
    pub seen : e.core.archived ≤ e.core.seen
    pub lap : e.core.archived ≤ from + slots
    pub fresh : e.core.fresh ≡ false

  -- where a copy is before a turn
  pub record IsAhead (slots from : ℕ) (d e : SeatView P) (next : ℕ) : Type 0 where
    pub on : GoesOn d e
    pub lap : IsLap slots from d e
    pub at : IsNext slots from e next

  -- a copy before a turn
  pub record Copying (slots from : ℕ) (d e : SeatView P) (buf : List ℕ) (next : ℕ) : Type 0 where
    pub ahead : IsAhead slots from d e next
    pub held : Held slots e.core buf next

  -- why the words of a turn end at a position
  abbrev pub EndsAt : ℕ → ℕ → SeatView P → ℕ → Type 0
  EndsAt slots from e q = (q ≡ e.core.head) ⊎ (q ≡ from + slots) ⊎ (IsGap slots e.core.loads q × (q < e.core.head))

  -- where the words of a turn end
  pub record IsEnd (slots from : ℕ) (d e : SeatView P) (q : ℕ) : Type 0 where
    pub within : q ≤ e.core.head
    pub below : q ≤ from + slots
    pub far : e.core.archived ≤ q → d.core.seen ≤ q
    pub ends : EndsAt slots from e q

  -- a copy once the words of a turn were read and the archived front after them
  pub record Turned (slots from : ℕ) (d e : SeatView P) (buf : List ℕ) (q : ℕ) : Type 0 where
    pub on : GoesOn d e
    pub held : (p : ℕ) → min e.core.archived e.core.durable ≤ p → p < q → HasSureWord slots e.core.loads buf e.core.archived p
    pub lap : IsLap slots from d e
    pub at : IsEnd slots from d e q
    pub seen : e.core.archived ≤ e.core.seen
    pub fresh : e.core.fresh ≡ false

  -- a copy that has only begun
  pub record Begun (slots archived : ℕ) (d e : SeatView P) : Type 0 where
    pub on : GoesOn d e
    pub is : e.core.archived ≡ archived
    pub lap : d.core.seen ≤ archived + slots
    pub seen : archived ≤ e.core.seen

  -- the words of a turn may be read
  pub can_copy : (slots from to : ℕ) (d e : SeatView P) (next head : ℕ) → IsAhead slots from d e next → head ≡ e.core.head
      → to ≡ min head (from + slots) → CanCopy slots e.core next to
  can_copy slots from to d e next head c head_is is =
      let onward = c.lap.onward in
      let below = c.at.below in
      let within = c.at.within in
      record { low = c.at.low; order = omega arith; lap = omega arith; within = omega arith }

  -- the words that were read, by the slots of the layout and the length that the seat knows
  pub read_as : (slots ring from to next q head : ℕ) (d e : SeatView P) (buf : List ℕ) → slots ≡ ring → head ≡ d.core.head → to ≡ min head (from + slots)
      → Reads slots next to d e buf q → Reads ring next (min d.core.head (from + ring)) d e buf q
  read_as slots ring from to next q head d e buf slots_is head_is is r =
      let to_is : to ≡ min d.core.head (from + ring) = is ∙ ap (λ k. min k (from + slots)) head_is ∙ ap (λ k. min d.core.head (from + k)) slots_is in
      subst (λ (k : ℕ). Reads ring next k d e buf q) to_is (subst (λ (k : ℕ). Reads k next to d e buf q) slots_is r)

  -- who is live stays so
  pub live_on : (d e : SeatView P) → GoesOn d e → d.core.live ≡ true → e.core.live ≡ true
  live_on d e on live = ap (λ (z : SeatView P). z.core.live) on.rest ∙ live

  -- the archived front is past where the words ended, and within the lap: there is one more turn
  pub record Round (slots from : ℕ) (d e : SeatView P) (buf : List ℕ) (q : ℕ) : Type 0 where
    pub turned : Turned slots from d e buf q
    pub past : q < e.core.archived
    pub within : e.core.archived < from + slots

  -- in one more turn the archived front has risen, or the word that wasn't matched is below what was released
  pub strides : (slots from : ℕ) (d e : SeatView P) (buf : List ℕ) (next q a : ℕ) → IsNext slots from d next
      → Reads slots next (min d.core.head (from + slots)) d e buf q → q < a → a < from + slots → (d.core.archived < a) ⊎ (q < e.told.passed)
  strides slots from d e buf next q a at r past within =
      let known = at.known in
      let seen = at.seen in
      let seen1 = r.only.seen in
      ⊎_elim (λ whole. let is : q ≡ min d.core.head (from + slots) = whole in inl (omega arith))
      (λ (stop : StopsAt slots e q (min d.core.head (from + slots))).
      ⊎_elim (λ (seen : q < e.core.seen). inr (stop.gone seen)) (λ (unseen : e.core.seen ≤ q). inl (omega arith)) (cases_lt q e.core.seen)) r.ended

  module _ {S : Type 0} where
    -- a copy begins with the length and the archived front
    pub begun : (state_of : P → PartState) (f : Frame) {s1 s2 : Step S} (m0 m1 m2 : Me S (SeatView P)) (n a : ℕ) → LoadsHead f s1 m0 n m1
        → LoadsArchived state_of f s2 m1 a m2 → Begun f.slots a m0.0 m2.0
    begun state_of f m0 m1 m2 n a one two =
        let on1 = goes_head f m0 m1 n one in
        let on2 = goes_archived state_of f m1 m2 a two in
        let seen1 = on1.seen in
        let window = two.front.window in
        let seen2 : m2.0.core.seen ≡ max m1.0.core.seen a = ap (λ (z : Me S (SeatView P)). z.0.core.seen) two.becomes in
        record {
          on = goes_then m0.0 m1.0 m2.0 on1 on2;
          is = ap (λ (z : Me S (SeatView P)). z.0.core.archived) two.becomes;
          lap = omega arith;
          seen = omega arith;
        }

    -- and goes on with the length again and the durable front
    pub copying : (f : Frame) {s3 s4 : Step S} (d : SeatView P) (m2 m3 m4 : Me S (SeatView P)) (a h n from : ℕ) (buf : List ℕ) → 0 < f.slots
        → Begun f.slots a d m2.0 → LoadsHead f s3 m2 h m3 → LoadsDurable f s4 m3 n m4 → from ≡ min a n → Copying f.slots from d m4.0 buf from
    copying f d m2 m3 m4 a h n from buf some' begin three four is =
        let on0 = begin.on in
        let on3 = goes_head f m2 m3 h three in
        let on4 = goes_durable f m3 m4 n four in
        let archived2 = begin.is in
        let archived3 : m3.0.core.archived ≡ m2.0.core.archived = ap (λ (z : Me S (SeatView P)). z.0.core.archived) three.becomes in
        let archived4 : m4.0.core.archived ≡ m3.0.core.archived = ap (λ (z : Me S (SeatView P)). z.0.core.archived) four.becomes in
        let head3 : m3.0.core.head ≡ h = ap (λ (z : Me S (SeatView P)). z.0.core.head) three.becomes in
        let head4 : m4.0.core.head ≡ m3.0.core.head = ap (λ (z : Me S (SeatView P)). z.0.core.head) four.becomes in
        let durable4 : m4.0.core.durable ≡ n = ap (λ (z : Me S (SeatView P)). z.0.core.durable) four.becomes in
        let seen3 : m3.0.core.seen ≡ m2.0.core.seen = ap (λ (z : Me S (SeatView P)). z.0.core.seen) three.becomes in
        let seen0 = on0.seen in
        let seen4 = on4.seen in
        let seen2 = begin.seen in
        let lap0 = begin.lap in
        let window = four.front.window in
        let head_seen = three.seen in
        let head_archived = three.archived in
        let known_archived = on0.archived in
        let known0 = on0.durable in
        let known3 = on3.durable in
        let known4 = on4.durable in
        record {
          ahead =
              record {
                on = goes_then d m3.0 m4.0 (goes_then d m2.0 m3.0 on0 on3) on4;
                lap = record { lap = omega arith; within = omega arith; first = omega arith; onward = omega arith };
                at =
                    record {
                      below = omega arith;
                      within = omega arith;
                      low = omega arith;
                      known = omega arith;
                      seen = omega arith;
                      lap = omega arith;
                      fresh = ap (λ (z : Me S (SeatView P)). z.0.core.fresh) four.becomes;
                    };
              };
          held = λ p low less. absurd (omega arith);
        }

    -- they were read, and the archived front after them
    pub turned : (state_of : P → PartState) (f : Frame) {s : Step S} (from : ℕ) (d : SeatView P) (buf : List ℕ) (next q a : ℕ) (m0 m1 m2 : Me S (SeatView P))
        → IsAhead f.slots from d m0.0 next → Reads f.slots next (min m0.0.core.head (from + f.slots)) m0.0 m1.0 buf q
        → LoadsArchived state_of f s m1 a m2 → Turned f.slots from d m2.0 buf q
    turned state_of f from d buf next q a m0 m1 m2 c r two =
        let only = r.only in
        let on1 = goes_reading m0.0 m1.0 only in
        let on2 = goes_archived state_of f m1 m2 a two in
        let fresh1 : m1.0.core.fresh ≡ false = only.fresh c.at.fresh in
        let loads2 : m2.0.core.loads ≡ map (assured a) m1.0.core.loads = ap (λ (z : Me S (SeatView P)). z.0.core.loads) two.becomes
        ∙ ap (λ b. cond b [] (map (assured a) m1.0.core.loads)) fresh1 in
        let archived2 : m2.0.core.archived ≡ a = ap (λ (z : Me S (SeatView P)). z.0.core.archived) two.becomes in
        let durable2 : m2.0.core.durable ≡ m1.0.core.durable = ap (λ (z : Me S (SeatView P)). z.0.core.durable) two.becomes in
        let head2 : m2.0.core.head ≡ m1.0.core.head = ap (λ (z : Me S (SeatView P)). z.0.core.head) two.becomes in
        let seen2 : m2.0.core.seen ≡ max m1.0.core.seen a = ap (λ (z : Me S (SeatView P)). z.0.core.seen) two.becomes in
        let known = two.front.known_to in
        let passed = two.front.passed_to in
        let head1 = only.head in
        let seen1 = only.seen in
        let archived1 = only.archived in
        let durable1 = only.durable in
        let onward = c.lap.onward in
        let lap = c.lap.lap in
        let within = c.lap.within in
        let first = c.lap.first in
        let reads_to = r.within in
        let seen0 = c.on.seen in
        let below_head : q ≤ m2.0.core.head = omega arith in
        let below_lap : q ≤ from + f.slots = omega arith in
        record {
          on = goes_then d m1.0 m2.0 (goes_then d m0.0 m1.0 c.on on1) on2;
          held =
              λ p low less.
              let h = r.held p (omega arith) less in
              subst (λ (k : ℕ). HasSureWord f.slots m2.0.core.loads buf k p) (sym archived2)
              (subst (λ (ls : List Load). HasSureWord f.slots ls buf a p) (sym loads2) (sure_word f.slots a p m1.0.core.loads buf h));
          lap = record { lap = lap; within = omega arith; first = first; onward = omega arith };
          at =
              record {
                within = below_head;
                below = below_lap;
                far =
                    λ past.
                    ⊎_elim (λ whole. let is : q ≡ min m0.0.core.head (from + f.slots) = whole in omega arith)
                    (λ (stop : StopsAt f.slots m1.0 q (min m0.0.core.head (from + f.slots))).
                    ⊎_elim (λ (seen : q < m1.0.core.seen). let gone = stop.gone seen in absurd (omega arith)) (λ (unseen : m1.0.core.seen ≤ q). omega arith)
                    (cases_lt q m1.0.core.seen)) r.ended;
                ends =
                    ⊎_elim
                    (λ whole.
                    let is : q ≡ min m0.0.core.head (from + f.slots) = whole in
                    ⊎_elim (λ (less : m0.0.core.head < from + f.slots). inl (omega arith)) (λ (over : from + f.slots ≤ m0.0.core.head). inr (inl (omega arith)))
                    (cases_lt m0.0.core.head (from + f.slots)))
                    (λ (stop : StopsAt f.slots m1.0 q (min m0.0.core.head (from + f.slots))).
                    let before = stop.below in
                    inr (inr (subst (λ (ls : List Load). IsGap f.slots ls q) (sym loads2) (gap_lasts f.slots a q m1.0.core.loads stop.gap), omega arith)))
                    r.ended;
              };
          seen = omega arith;
          fresh = ap (λ (z : Me S (SeatView P)). z.0.core.fresh) two.becomes;
        }

    -- then the copy goes on
    pub turns_on : (f : Frame) {s3 s4 : Step S} (from : ℕ) (d : SeatView P) (buf : List ℕ) (q : ℕ) (m2 m3 m4 : Me S (SeatView P)) (h n : ℕ)
        → Round f.slots from d m2.0 buf q → LoadsHead f s3 m2 h m3 → LoadsDurable f s4 m3 n m4
        → Copying f.slots from d m4.0 buf (max q (min m2.0.core.archived n))
    turns_on f from d buf q m2 m3 m4 h n c three four =
        let t = c.turned in
        let past = c.past in
        let within = c.within in
        let on3 = goes_head f m2 m3 h three in
        let on4 = goes_durable f m3 m4 n four in
        let archived3 : m3.0.core.archived ≡ m2.0.core.archived = ap (λ (z : Me S (SeatView P)). z.0.core.archived) three.becomes in
        let archived4 : m4.0.core.archived ≡ m3.0.core.archived = ap (λ (z : Me S (SeatView P)). z.0.core.archived) four.becomes in
        let durable3 : m3.0.core.durable ≡ m2.0.core.durable = ap (λ (z : Me S (SeatView P)). z.0.core.durable) three.becomes in
        let durable4 : m4.0.core.durable ≡ n = ap (λ (z : Me S (SeatView P)). z.0.core.durable) four.becomes in
        let head3 : m3.0.core.head ≡ h = ap (λ (z : Me S (SeatView P)). z.0.core.head) three.becomes in
        let head4 : m4.0.core.head ≡ m3.0.core.head = ap (λ (z : Me S (SeatView P)). z.0.core.head) four.becomes in
        let loads3 : m3.0.core.loads ≡ m2.0.core.loads = ap (λ (z : Me S (SeatView P)). z.0.core.loads) three.becomes in
        let loads4 : m4.0.core.loads ≡ map (assured n) m3.0.core.loads = ap (λ (z : Me S (SeatView P)). z.0.core.loads) four.becomes in
        let known = four.front.known_to in
        let head_archived = three.archived in
        let seen3 = on3.seen in
        let seen4 = on4.seen in
        let seen2 = t.seen in
        let heads = on3.head in
        let lap = t.lap.lap in
        let lap_within = t.lap.within in
        let first = t.lap.first in
        let onward = t.lap.onward in
        record {
          ahead =
              record {
                on = goes_then d m3.0 m4.0 (goes_then d m2.0 m3.0 t.on on3) on4;
                lap = record { lap = lap; within = omega arith; first = first; onward = omega arith };
                at =
                    record {
                      below = omega arith;
                      within = omega arith;
                      low = omega arith;
                      known = omega arith;
                      seen = omega arith;
                      lap = omega arith;
                      fresh = ap (λ (z : Me S (SeatView P)). z.0.core.fresh) four.becomes;
                    };
              };
          held =
              λ p low less.
              let h2 = t.held p (omega arith) (omega arith) in
              subst (λ (ls : List Load). HasWord f.slots ls buf p) (sym (loads4 ∙ ap (map (assured n)) loads3))
              (word_lasts f.slots n p m2.0.core.loads buf h2.held);
        }

-- so that less is left
pub shrinks : (lap before next q a n passed : ℕ) → before ≤ a → next ≤ q → q < a → a < lap → passed ≤ a → passed ≤ n → (before < a) ⊎ (q < passed)
    → (lap - a) + (lap - max q (min a n)) < (lap - before) + (lap - next)
shrinks lap before next q a n passed rises onward past within one two either =
    ⊎_elim (λ (up : before < a). omega arith) (λ (gone : q < passed). omega arith) either
