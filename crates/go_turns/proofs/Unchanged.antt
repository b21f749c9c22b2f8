-- For callers: a part may be given back as it was taken, whatever its seat did meanwhile.
use Rattle.std.proofs.Common.{◌≡◌, ℕ, true, sym, refl, ap, ◌∙◌, arith, subst}
use Rattle.std.specs.Prelude.{Option as Maybe}
use Rattle.atomic_table.specs.Table.{Me}
use Rattle.go_text.specs.Causes.{Rose}
use Rattle.go_core.specs.Frame.{Frame}
use Rattle.go_core.specs.Parts.{IsFilePlace}
use Rattle.go_core.proofs.PinCalls.{pins_unchanged}
use Rattle.go_rule.specs.declared.view.About.{About}
use Rattle.go_rule.specs.declared.view.SeatView.{SeatView}
use Rattle.go_rule.specs.Meaning.{Meaning}
use Rattle.go_rule.specs.Turns.{owns_at, IsTaken, CanGive}
use Rattle.go_turns.specs.Holding.{Takes, MayGive}
use Rattle.go_turns.proofs.Handing.{told_of, view_is, may_give}

-- the file of a disk that failed only once the seat saw the flag raised
pub same_can : {P : Type 0} (m : Meaning P) (f : Frame) (d now : SeatView P) (place : ℕ) (part : P) → IsTaken m f d place part → now.about ≡ d.about
    → (IsFilePlace f place → m.is_spent part → now.told.flagged ≡ true) → CanGive m f now place part part
same_can m f d now place part t about flagged =
    record {
      fits = subst (λ (a : About). m.fits part place a.shards a.vertices) (sym about) t.fits;
      stands = λ log begins stands. stands;
      shard =
          λ shard.
          let s = t.shard shard in
          record {
            successor =
                record {
                  onward = record { front_from = omega arith; front_to = omega arith; cut_from = omega arith; cut_to = omega arith };
                  keeps = pins_unchanged now.core.archived (owns_at place now) (m.state_of part) (m.state_of part) refl s.in_hand.cut_pins s.in_hand.names;
                };
            own = s.own;
            kept = λ front above keeps. keeps;
          };
      file =
          λ file.
          let s = t.file file in
          record {
            successor = record { front_from = omega arith; front_to = omega arith; cut = refl; pins = refl };
            clock = omega arith;
            faults = omega arith;
            spent = λ gone. (subst (λ (a : About). Rose a.faults (m.mark_of part).faults) (sym about) (s.spent gone), flagged file gone);
            recovers = λ log begins recovers. recovers;
          };
    }

-- so a part that was taken may be given back so after any steps that left the notes and the slots in hand as they were
pub may_return : {P : Type 0} (m : Meaning P) (f : Frame) (place : ℕ) (part : P) (me now then : Me (Maybe P) (SeatView P)) → Takes m f place part me now
    → then.0.stake.notes ≡ now.0.stake.notes → then.1 ≡ now.1 → then.0.about ≡ now.0.about
    → (IsFilePlace f place → m.is_spent part → then.0.told.flagged ≡ true) → MayGive m f place part then
may_return m f place part me now then t notes hand about flagged =
    may_give m f place part me now t part then notes hand
    (same_can m f me.0 then.0 place part (told_of m f place part me now t) (about ∙ ap (λ d. d.about) (view_is m f place part me now t)) flagged)
