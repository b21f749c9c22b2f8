-- The end of a copy: what its seat has seen, which words the buffer has, and why it stopped.
use Rattle.std.proofs.Common.{◌≡◌, ◌⊎◌, ℕ, ◌+◌, ◌%◌, ◌^◌, ◌<◌, ◌≤◌, min, max, true, List, map}
use Rattle.std.proofs.Common.{length, slice_index, sym, refl, ap, ◌∙◌, inl, inr, ⊎_elim, arith, subst}
use Rattle.std.specs.Prelude.{All, Contains}
use Rattle.std.proofs.lemmas.Bool.{cases_lt}
use Rattle.std.proofs.lemmas.List.Elements.{All-contains}
use mathlib.Core.Option.{some}
use lib.ListN.{get_elem?}
use Rattle.atomic_table.specs.Table.{Me, Step}
use Rattle.go_word.specs.declared.edge.Edge.{Edge}
use Rattle.go_word.specs.Word.{word}
use Rattle.go_core.specs.declared.entry.Load.{Load}
use Rattle.go_core.specs.declared.part.PartState.{PartState}
use Rattle.go_core.specs.Frame.{Frame}
use Rattle.go_core.specs.Parts.{IsShardPlace}
use Rattle.go_core.specs.View.{assured}
use Rattle.go_rule.specs.declared.view.Note.{Note}
use Rattle.go_rule.specs.declared.view.PlacedPin.{PlacedPin}
use Rattle.go_rule.specs.declared.view.SeatView.{SeatView}
use Rattle.go_rule.specs.Rule.{IsBelow}
use Rattle.go_rule.specs.Steps.{LoadsArchived, LoadsEnding, CanEnd, IsRead, IsWordOf}
use Rattle.go_ring.specs.declared.copied.Copied.{Copied}
use Rattle.go_ring.specs.declared.copied.CopyStop.{CopyStop}
use Rattle.go_ring.specs.declared.copied.CopyStop.TheVariants.{Head, Unwritten, Window}
use Rattle.go_ring.specs.Copies.{GoesOn, IsGap, IsCutOff, StopIs, TellsFronts, TellsWords}
use Rattle.go_ring.specs.Reads.{StopsFor}
use Rattle.go_ring.proofs.Copying.{gap_lasts}
use Rattle.go_ring.proofs.Turns.{HasSureWord, EndsAt, Turned}

-- a word that was read is that of its position
word_told : (slots vertices p : ℕ) (seen : List Edge) (buf : List ℕ) (l : Load) → IsWordOf slots vertices seen l → l.at ≡ p →
    l.word ≡ slice_index buf (p % slots)
    → IsWordOf slots vertices seen (record { at = p; word = slice_index buf (p % slots); sure = true })
word_told slots vertices p seen buf l w at is = record {
  edge = w.edge;
  there = subst (λ (k : ℕ). get_elem? seen k ≡ some w.edge) at w.there;
  is = sym is ∙ w.is ∙ ap (λ (k : ℕ). word slots k w.edge) at;
  below = w.below;
}

-- where no word is left out, the words ended at the end
whole : (q lap : ℕ) (copied : Copied) (head from : ℕ) (stop : CopyStop) → copied.end ≡ max q copied.archived → (copied.archived ≤ q) ⊎ (lap ≤ copied.archived)
    → StopsFor copied.end head from lap stop → (IsCutOff copied stop → ⊥) → copied.end ≡ q
whole q lap copied head from (Window first) end either stops uncut =
    ⊎_elim (λ (past : q < copied.archived). absurd (uncut (omega arith))) (λ (within : copied.archived ≤ q). omega arith) (cases_lt q copied.archived)
whole q lap copied head from (Head long) end either stops uncut =
    let below = stops.2 in
    ⊎_elim (λ (within : copied.archived ≤ q). omega arith) (λ (over : lap ≤ copied.archived). absurd (omega arith)) either
whole q lap copied head from (Unwritten position) end either stops uncut =
    let below = stops.2 in
    ⊎_elim (λ (within : copied.archived ≤ q). omega arith) (λ (over : lap ≤ copied.archived). absurd (omega arith)) either

module _ {P : Type 0} where
  -- all from the archived front up to the end was read and is matched
  pub can_end : (slots from : ℕ) (d e : SeatView P) (buf : List ℕ) (q end : ℕ) → Turned slots from d e buf q → end ≡ max q e.core.archived
      → CanEnd slots e end
  can_end slots from d e buf q end t is p past less =
      let h = t.held p (omega arith) (omega arith) in (h.held.load, h.held.there, h.held.at, h.held.matched)

  -- why it stopped
  pub stops_so : (slots from : ℕ) (d now : SeatView P) (copied : Copied) (stop : CopyStop) → StopsFor copied.end now.core.head from (from + slots) stop
      → min d.core.archived d.core.durable ≤ from → from ≤ min copied.archived copied.durable
      → (copied.end < from + slots → EndsAt slots from now copied.end) → StopIs slots from d now copied stop
  stops_so slots from d now copied (Window first) stops low within ended =
      let is : first ≡ from = stops.0 in
      let over = stops.1 in (is, omega arith, omega arith, omega arith)
  stops_so slots from d now copied (Head long) stops low within ended = (stops.0 ∙ sym stops.1, sym stops.1)
  stops_so slots from d now copied (Unwritten position) stops low within ended =
      let below = stops.2 in
      ⊎_elim (λ at_head. absurd (stops.1 at_head))
      (λ rest. ⊎_elim (λ at_lap. let is : copied.end ≡ from + slots = at_lap in absurd (omega arith)) (λ gap. (stops.0, gap.0, gap.1)) rest)
      (ended below)

module _ {P S : Type 0} where
  -- the words that are told
  pub ends : (f : Frame) {s : Step S} (from : ℕ) (d : SeatView P) (buf : List ℕ) (q : ℕ) (m2 m3 : Me S (SeatView P)) (copied : Copied)
      → Turned f.slots from d m2.0 buf q → LoadsEnding f copied.end s m2 copied.durable m3 → copied.archived ≡ m2.0.core.archived
      → copied.end ≡ max q copied.archived → (copied.archived ≤ q) ⊎ (from + f.slots ≤ copied.archived)
      → StopsFor copied.end m2.0.core.head from (from + f.slots) copied.stop → copied.end < 2 ^ 32 → TellsWords f.slots d m3.0 copied buf
  ends f from d buf q m2 m3 copied t l archived end either stops small =
      let n = copied.durable in
      let seen3 : m3.0.core.seen ≡ max (max m2.0.core.seen n) copied.end = ap (λ (z : Me S (SeatView P)). z.0.core.seen) l.becomes in
      let told3 : m3.0.told.seen ≡ l.seen = ap (λ (z : Me S (SeatView P)). z.0.told.seen) l.becomes in
      let up_to = l.sees.up_to in
      let known = l.front.known_to in
      let lap = t.lap.lap in
      let vertices : m2.0.about.vertices ≡ d.about.vertices = ap (λ (z : SeatView P). z.about.vertices) t.on.rest in
      record {
        seen_before =
            ⊎_elim (λ (within : copied.archived ≤ q). let far = t.at.far (omega arith) in omega arith)
            (λ (over : from + f.slots ≤ copied.archived). omega arith) either;
        sees = omega arith;
        small = small;
        long = ap (λ (xs : List Edge). length xs) told3 ∙ omega arith;
        words =
            λ p low less uncut.
            let is : copied.end ≡ q = whole q (from + f.slots) copied m2.0.core.head from copied.stop end either stops uncut in
            let h = t.held p (omega arith) (omega arith) in
            let at = h.held.at in
            let read : IsRead f.slots m2.0.about.vertices l.seen n h.held.load =
            All-contains (IsRead f.slots m2.0.about.vertices l.seen n) m2.0.core.loads h.held.load l.words h.held.there
            in
            let late : (h.held.load.sure ≡ true) ⊎ (n ≤ h.held.load.at) =
            ⊎_elim (λ (less : p < n). inl (h.sure (omega arith))) (λ (over : n ≤ p). inr (omega arith)) (cases_lt p n)
            in
            let w : IsWordOf f.slots m2.0.about.vertices l.seen h.held.load = read late h.held.matched (omega arith) in
            subst (λ (xs : List Edge). IsWordOf f.slots d.about.vertices xs (record { at = p; word = slice_index buf (p % f.slots); sure = true })) (sym told3)
            (subst (λ (v : ℕ). IsWordOf f.slots v l.seen (record { at = p; word = slice_index buf (p % f.slots); sure = true })) vertices
            (word_told f.slots m2.0.about.vertices p l.seen buf h.held.load w at h.held.word));
      }

  -- the fronts
  pub fronts : (state_of : P → PartState) (f : Frame) {s2 s3 : Step S} (d : SeatView P) (m1 m2 m3 : Me S (SeatView P)) (copied : Copied) (q : ℕ) → GoesOn d m1.0
      → LoadsArchived state_of f s2 m1 copied.archived m2 → LoadsEnding f copied.end s3 m2 copied.durable m3 → copied.end ≡ max q copied.archived
      → TellsFronts state_of f d m3.0 copied
  fronts state_of f d m1 m2 m3 copied q on two l end =
      let archived2 : m2.0.core.archived ≡ copied.archived = ap (λ (z : Me S (SeatView P)). z.0.core.archived) two.becomes in
      let archived3 : m3.0.core.archived ≡ m2.0.core.archived = ap (λ (z : Me S (SeatView P)). z.0.core.archived) l.becomes in
      record {
        archived = archived3 ∙ archived2;
        durable = ap (λ (z : Me S (SeatView P)). z.0.core.durable) l.becomes;
        within = omega arith;
        pins =
            subst (All (λ (x : PlacedPin). IsShardPlace f x.place → x.pin.front ≤ copied.archived)) (ap (λ (z : SeatView P). z.stake.pins) on.rest) two.pins;
        cuts =
            subst (All (λ (x : Note P). IsShardPlace f x.place → (state_of x.part).cut ≤ copied.archived)) (ap (λ (z : SeatView P). z.stake.notes) on.rest)
            two.cuts;
      }

  -- where the words ended is still so at the end
  pub ends_still : (f : Frame) (end : ℕ) {s : Step S} (from : ℕ) (m2 m3 : Me S (SeatView P)) (n q : ℕ) → LoadsEnding f end s m2 n m3
      → EndsAt f.slots from m2.0 q → EndsAt f.slots from m3.0 q
  ends_still f end from m2 m3 n q l ended =
      let head3 : m3.0.core.head ≡ m2.0.core.head = ap (λ (z : Me S (SeatView P)). z.0.core.head) l.becomes in
      let loads3 : m3.0.core.loads ≡ map (assured n) m2.0.core.loads = ap (λ (z : Me S (SeatView P)). z.0.core.loads) l.becomes in
      ⊎_elim (λ at_head. inl (at_head ∙ sym head3))
      (λ rest. ⊎_elim (λ at_lap. inr (inl at_lap))
      (λ gap. let below = gap.1 in
      inr (inr (subst (λ (ls : List Load). IsGap f.slots ls q) (sym loads3) (gap_lasts f.slots n q m2.0.core.loads gap.0), omega arith))) rest) ended
