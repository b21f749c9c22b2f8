-- What copies of the ring leave of a seat, and what the last one has of a span.
use Rattle.std.proofs.Common.{◌≡◌, ℕ, ◌≤◌, List, sym, ap, ◌∙◌, arith, subst}
use Rattle.std.specs.Prelude.{Contains}
use Rattle.atomic_table.specs.Table.{Me, step}
use mathlib.Core.Option.{none}
use Rattle.go_word.specs.declared.word.TheConstants.{ID_LIMIT}
use Rattle.go_api.specs.declared.stop.Stop.{Stop}
use Rattle.go_core.specs.declared.part.PartState.{PartState}
use Rattle.go_core.specs.Frame.{Frame}
use Rattle.go_rule.specs.declared.view.SeatView.{SeatView}
use Rattle.go_rule.specs.Rule.{pins_at}
use Rattle.go_rule.specs.Steps.{LoadsFlag}
use Rattle.go_ring.specs.declared.copied.Copied.{Copied}
use Rattle.go_ring.specs.declared.copied.CopyStop.{CopyStop}
use Rattle.go_ring.specs.declared.copied.CopyStop.TheVariants.{Head, Unwritten, Window}
use Rattle.go_ring.specs.Calls.{cause_of}
use Rattle.go_ring.specs.Copies.{GoesOn, Copies, IsCutOff}
use Rattle.go_turns.specs.Going.{but_known, HasGoneOn, IsFlagged}
use Rattle.go_turns.proofs.Going.{gone_nowhere, gone_further, gone_flag}
use Rattle.go_stream.specs.declared.wanted.Wanted.{Wanted}
use Rattle.go_stream.specs.Spans.{IsEnough}
use Rattle.go_stream.specs.Updates.{HasCome}
use Rattle.go_stream.proofs.Entries.{decoded}

-- where a copy was cut off
cut_at : (copied : Copied) (stop : CopyStop) → IsCutOff copied stop → copied.end ≡ copied.archived
cut_at copied (Window from) cut = cut
cut_at copied (Head head) cut = absurd cut
cut_at copied (Unwritten position) cut = absurd cut

module _ {P : Type 0} where
  -- a seat that copied the ring has gone on
  pub gone_copied : (f : Frame) (d e : SeatView P) → GoesOn d e → HasGoneOn f d e
  gone_copied f d e on =
      let taken : e.core.taken ≡ d.core.taken = ap (λ z. z.core.taken) on.rest in
      record {
        knows = record {
          begins = on.begins;
          seen = on.seen;
          taken = omega arith;
          head = on.head;
          archived = on.archived;
          durable = on.durable;
          passed = on.passed;
          flagged = λ is. ap (λ z. z.told.flagged) on.rest ∙ is;
        };
        rest = ap but_known on.rest;
        pins = λ place here pin.
            let is : pins_at place e ≡ pins_at place d = ap (pins_at place) on.rest in
            (λ there. subst (λ xs. Contains xs pin) is there, λ there. subst (λ xs. Contains xs pin) (sym is) there);
      }

  module _ {S : Type 0} (f : Frame) (words : ℕ) (first me now : Me S (SeatView P)) (before : HasGoneOn f first.0 me.0) where
    -- a copy that has come far enough
    pub come : (state_of : P → PartState) (wanted : Wanted) (copied : Copied) (buf : List ℕ) → first.0.about.vertices ≤ ID_LIMIT
        → Copies state_of f words me now copied buf → IsEnough wanted copied → HasCome f wanted first.0 now.0 copied buf
    come state_of wanted copied buf ids c enough =
        let about : me.0.about.vertices ≡ first.0.about.vertices = ap (λ z. z.about.vertices) before.rest in
        let seen = before.knows.seen in
        let seen_before = c.told.seen_before in
        let sees = c.told.sees in
        let long = c.told.long in
        let within = c.fronts.within in
        record {
          on = gone_further f first.0 me.0 now.0 before (gone_copied f me.0 now.0 c.on);
          floor = enough.0;
          seen_before = omega arith;
          sees = omega arith;
          long = long;
          archived = c.fronts.archived;
          durable = c.fronts.durable;
          entries = λ p from below.
              decoded f.slots me.0.about.vertices now.0.told.seen _ (omega arith)
              (c.told.words p from (omega arith)
              (λ cut. let at = cut_at copied copied.stop cut in let far = enough.1 cut in absurd (omega arith)));
        }

    -- the flag was found up
    pub flagged : (why : Stop) → LoadsFlag (step words 3 0 0 none) me (cause_of why) now → IsFlagged f words (cause_of why) first now
    flagged why load =
        record {
          before = me;
          after = now;
          came = before.knows;
          load = load;
          left = (gone_nowhere f now.0).knows;
          on = gone_further f first.0 me.0 now.0 before (gone_flag f (step words 3 0 0 none) me now (cause_of why) load);
        }
