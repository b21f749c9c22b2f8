-- What copies of the ring leave of a seat, and what the last one tells.
use Rattle.std.proofs.Common.{◌≡◌, ℕ, ◌%◌, ◌<◌, ◌≤◌, List, get_or, slice_index, sym, ap, ◌∙◌, arith, subst}
use Rattle.std.specs.Prelude.{All, Contains, filter, true, ◌==◌}
use Rattle.std.proofs.lemmas.List.Elements.{All-filter, All-map, All-contains, filter_passes}
use Rattle.atomic_table.specs.Table.{Me, step}
use mathlib.Core.Option.{some, none}
use Rattle.go_word.specs.declared.edge.Edge.{Edge}
use Rattle.go_word.specs.declared.pin.Pin.{Pin}
use Rattle.go_word.specs.declared.word.TheConstants.{ID_LIMIT}
use Rattle.go_word.specs.Word.{decode}
use Rattle.go_word.proofs.WordLaws.{decode-word}
use Rattle.go_core.specs.declared.part.PartState.{PartState}
use Rattle.go_core.specs.Frame.{Frame}
use Rattle.go_core.specs.Parts.{IsShardPlace}
use Rattle.go_rule.specs.declared.view.PlacedPin.{PlacedPin}
use Rattle.go_rule.specs.declared.view.SeatView.{SeatView}
use Rattle.go_rule.specs.Rule.{IsBelow, pins_at}
use Rattle.go_rule.specs.Steps.{IsWordOf, LoadsFlag}
use Rattle.go_rule.proofs.Lists.{is_number}
use Rattle.go_ring.specs.declared.copied.Copied.{Copied}
use Rattle.go_ring.specs.declared.copied.CopyStop.{CopyStop}
use Rattle.go_ring.specs.declared.copied.CopyStop.TheVariants.{Head, Unwritten, Window}
use Rattle.go_ring.specs.Copies.{GoesOn, Copies, IsCutOff}
use Rattle.go_turns.specs.Going.{but_known, HasGoneOn, IsFlagged}
use Rattle.go_turns.proofs.Going.{gone_nowhere, gone_further, gone_flag}
use Rattle.go_views.specs.Copying.{entry_at, HasEntry, HasComeTo}

-- a copy that was cut off has no position between the archived front and its end
none_cut : (copied : Copied) (stop : CopyStop) (p : ℕ) → copied.archived ≤ p → p < copied.end → IsCutOff copied stop → ⊥
none_cut copied (Window from) p least most cut = omega arith
none_cut copied (Head head) p least most cut = cut
none_cut copied (Unwritten position) p least most cut = cut

-- a word that is that of an entry holds it, where words can hold the ids of all vertices
held : (slots vertices : ℕ) (seen : List Edge) (words : List ℕ) (p : ℕ) → vertices ≤ ID_LIMIT
    → IsWordOf slots vertices seen (record { at = p; word = slice_index words (p % slots); sure = true }) → HasEntry slots vertices seen words p
held slots vertices seen words p ids of =
    let src = of.below.src in
    let dst = of.below.dst in
    let same : of.edge ≡ entry_at slots words p =
    sym (ap decode of.is ∙ decode-word slots p of.edge (record { within = record { source = omega arith; destination = omega arith } }))
    in
    record { there = of.there ∙ ap some same; below = subst (IsBelow vertices) same of.below }

module _ {P : Type 0} where
  -- what is known of all pins of a seat is known of those at a place
  pins_there : (d : SeatView P) (place bound : ℕ) (Q : ℕ → Type 0) → Q place → All (λ (x : PlacedPin). Q x.place → x.pin.front ≤ bound) d.stake.pins
      → All (λ (pin : Pin). pin.front ≤ bound) (pins_at place d)
  pins_there d place bound Q here all =
      let test = λ (x : PlacedPin). x.place == place in
      let near = filter test d.stake.pins in
      All-map (λ (pin : Pin). pin.front ≤ bound) (λ (x : PlacedPin). x.pin) near
      (λ k x within.
      All-filter test (λ (y : PlacedPin). Q y.place → y.pin.front ≤ bound) d.stake.pins all k x within
      (subst Q (sym (is_number (get_or near k x).place place (filter_passes test d.stake.pins k x within))) here))

  -- a seat that copied the ring has gone on
  pub gone_copied : (f : Frame) (d e : SeatView P) → GoesOn d e → HasGoneOn f d e
  gone_copied f d e on =
      let taken : e.core.taken ≡ d.core.taken = ap (λ z. z.core.taken) on.rest in
      record {
        knows = record {
          begins = on.begins;
          seen = on.seen;
          taken = omega arith;
          head = on.head;
          archived = on.archived;
          durable = on.durable;
          passed = on.passed;
          flagged = λ is. ap (λ z. z.told.flagged) on.rest ∙ is;
        };
        rest = ap but_known on.rest;
        pins = λ place here pin.
            let is : pins_at place e ≡ pins_at place d = ap (pins_at place) on.rest in
            (λ there. subst (λ xs. Contains xs pin) is there, λ there. subst (λ xs. Contains xs pin) (sym is) there);
      }

  module _ {S : Type 0} (f : Frame) (words : ℕ) (first me now : Me S (SeatView P)) (before : HasGoneOn f first.0 me.0) where
    -- a copy whose end isn't below the floor
    pub come : (state_of : P → PartState) (floor : ℕ) (copied : Copied) (buf : List ℕ) → first.0.about.vertices ≤ ID_LIMIT
        → Copies state_of f words me now copied buf → floor ≤ copied.end → HasComeTo f floor first.0 now.0 copied buf
    come state_of floor copied buf ids c far =
        let about : me.0.about.vertices ≡ first.0.about.vertices = ap (λ z. z.about.vertices) before.rest in
        let same : now.0.about.vertices ≡ me.0.about.vertices = ap (λ z. z.about.vertices) c.on.rest in
        let seen = before.knows.seen in
        let seen_before = c.told.seen_before in
        let sees = c.told.sees in
        let long = c.told.long in
        record {
          on = gone_further f first.0 me.0 now.0 before (gone_copied f me.0 now.0 c.on);
          floor_to = far;
          seen_before = omega arith;
          sees = omega arith;
          long = long;
          small = c.told.small;
          archived =
              record {
                known = c.fronts.archived;
                within = c.fronts.within;
                pins = λ place here pin there.
                    All-contains (λ (x : Pin). x.front ≤ copied.archived) (pins_at place now.0) pin
                    (pins_there now.0 place copied.archived (IsShardPlace f) here
                    (subst (λ xs. All (λ (x : PlacedPin). IsShardPlace f x.place → x.pin.front ≤ copied.archived) xs) (sym (ap (λ z. z.stake.pins) c.on.rest))
                    c.fronts.pins))
                    there;
              };
          entries = λ p least most.
              subst (λ v. HasEntry f.slots v now.0.told.seen buf p) (sym same)
              (held f.slots me.0.about.vertices now.0.told.seen buf p (omega arith)
              (c.told.words p (omega arith) most (none_cut copied copied.stop p least most)));
        }

    -- the flag was found up
    pub flagged : (n : ℕ) → LoadsFlag (step words 3 0 0 none) me n now → IsFlagged f words n first now
    flagged n load =
        record {
          before = me;
          after = now;
          came = before.knows;
          load = load;
          left = (gone_nowhere f now.0).knows;
          on = gone_further f first.0 me.0 now.0 before (gone_flag f (step words 3 0 0 none) me now n load);
        }
