-- For callers: as what a part may be given back, as that it may be after further steps too, by which its seat forgets nothing.
use Rattle.std.proofs.Common.{◌≡◌, ℕ, ◌≤◌, Bool, true, List, [], length, take, take-take, sym, ap, ◌∙◌, inl, inr, ⊎_elim, arith, subst}
use Rattle.std.specs.Prelude.{find, Some, None, Option as Maybe}
use Rattle.std.proofs.lemmas.List.Elements.{All-weaker}
use Rattle.atomic_table.specs.Table.{Me}
use Rattle.go_word.specs.declared.edge.Edge.{Edge}
use Rattle.go_word.specs.declared.pin.Pin.{Pin}
use Rattle.go_word.specs.Pins.{is_named}
use Rattle.go_text.specs.Causes.{Rose}
use Rattle.go_core.specs.declared.part.PartState.{PartState}
use Rattle.go_core.specs.Frame.{Frame}
use Rattle.go_core.specs.Parts.{Follows, KeepsPins, reach_of}
use Rattle.go_core.specs.Pins.{owns_name}
use Rattle.go_rule.specs.declared.view.About.{About}
use Rattle.go_rule.specs.declared.view.SeatView.{SeatView}
use Rattle.go_rule.specs.Meaning.{Meaning}
use Rattle.go_rule.specs.Rule.{Begins, pins_at}
use Rattle.go_rule.specs.Turns.{owns_at, mark_in, CanGive}
use Rattle.go_rule.proofs.Beginnings.{begins_within}
use Rattle.go_turns.specs.Holding.{MayGive}
use Rattle.go_turns.proofs.Handing.{holds_on}

-- a beginning of a beginning of the log is one of the log
pub begins_before : (log more seen : List Edge) → Begins more seen → Begins log more → Begins log seen
begins_before log more seen one two =
    one ∙ ap (take (length seen)) two ∙ take-take (length seen) (length more) log (begins_within more seen one)

-- a pin that may stand so by an archived front, may by a later one
follows_later : (cut archived later : ℕ) (own : Bool) (old : Maybe Pin) (pin : Pin) → archived ≤ later → Follows cut archived own old pin
    → Follows cut later own old pin
follows_later cut archived later own None pin less follows = follows
follows_later cut archived later own (Some old) pin less follows =
    ⊎_elim (λ (same : pin.front ≡ old.front). inl same) (λ moved. let upto = moved.2 in inr (moved.0, moved.1, omega arith)) follows

pins_later : (archived later : ℕ) (own : ℕ → Bool) (old new : PartState) → archived ≤ later → KeepsPins archived own old new → KeepsPins later own old new
pins_later archived later own old new less keeps =
    record {
      cut_pins = keeps.cut_pins;
      names = keeps.names;
      others = keeps.others;
      pins = All-weaker (λ pin. Follows old.cut archived (own pin.id) (find (is_named pin.id) old.pins) pin)
          (λ pin. Follows old.cut later (own pin.id) (find (is_named pin.id) old.pins) pin)
          (λ pin follows. follows_later old.cut archived later (own pin.id) (find (is_named pin.id) old.pins) pin less follows) new.pins keeps.pins;
    }

module _ {P : Type 0} where
  -- a seat knows no less than before of the log, of the flag, of the archived front, and took no less; its pins in the shard of a place are as they were
  pub record Knows (place : ℕ) (d e : SeatView P) : Type 0 where
    pub about : e.about ≡ d.about
    pub seen : Begins e.told.seen d.told.seen
    pub flagged : d.told.flagged ≡ true → e.told.flagged ≡ true
    pub archived : d.core.archived ≤ e.core.archived
    pub taken : d.core.taken ≤ e.core.taken
    pub reach : reach_of d.core ≤ reach_of e.core
    pub pins : pins_at place e ≡ pins_at place d

module _ {P : Type 0} (m : Meaning P) where
  pub can_later : (f : Frame) (d e : SeatView P) (place : ℕ) (old new : P) → Knows place d e → CanGive m f d place old new → CanGive m f e place old new
  can_later f d e place old new knows can =
      let archived = knows.archived in
      let reach = knows.reach in
      let taken = knows.taken in
      record {
        fits = subst (λ (a : About). m.fits new place a.shards a.vertices) (sym knows.about) can.fits;
        stands = λ log begins stands.
            (let stood = subst (λ (a : About). m.stands_for old a.first log) knows.about stands in
            subst (λ (a : About). m.stands_for new a.first log) (sym knows.about)
            (can.stands log (begins_before log e.told.seen d.told.seen knows.seen begins) stood));
        shard = λ shard.
            (let s = can.shard shard in
            let onward = s.successor.onward in
            let front_to = onward.front_to in
            let cut_to = onward.cut_to in
            record {
              successor = record {
                onward = record { front_from = onward.front_from; front_to = omega arith; cut_from = onward.cut_from; cut_to = omega arith };
                keeps =
                    subst (λ (pins : List Pin). KeepsPins e.core.archived (λ id. owns_name id pins []) (m.state_of old) (m.state_of new)) (sym knows.pins)
                    (pins_later d.core.archived e.core.archived (owns_at place d) (m.state_of old) (m.state_of new) archived s.successor.keeps);
              };
              own = s.own;
              kept = s.kept;
            });
        file = λ file.
            (let s = can.file file in
            let front_to = s.successor.front_to in
            record {
              successor = record { front_from = s.successor.front_from; front_to = omega arith; cut = s.successor.cut; pins = s.successor.pins };
              clock = s.clock;
              faults = s.faults;
              spent = λ gone.
                  (let spent = s.spent gone in
                  (subst (λ (a : About). Rose a.faults (m.mark_of new).faults) (sym knows.about) spent.0, knows.flagged spent.1));
              recovers = λ log begins recovers.
                  subst (λ (a : About). m.recovers new log a.vertices a.first (mark_in a)) (sym knows.about)
                  (s.recovers log (begins_before log e.told.seen d.told.seen knows.seen begins)
                  (subst (λ (a : About). m.recovers old log a.vertices a.first (mark_in a)) knows.about recovers));
            });
      }

  -- so a part in hand may be given back as before, after steps that left the notes of parts and the slots in hand as they were
  pub may_later : (f : Frame) (place : ℕ) (part : P) (me then : Me (Maybe P) (SeatView P)) → MayGive m f place part me → then.0.stake.notes ≡ me.0.stake.notes
      → then.1 ≡ me.1 → Knows place me.0 then.0 → MayGive m f place part then
  may_later f place part me then g notes hand knows =
      record {
        old = g.old;
        older = g.older;
        slots = g.slots;
        holds = holds_on place g.old g.older g.slots me then notes hand g.holds;
        can = can_later f me.0 then.0 place g.old part knows g.can;
      }
