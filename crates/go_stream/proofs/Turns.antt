-- What a turn on the log's file leaves of a seat, and of one that raised the flag meanwhile.
use Rattle.std.proofs.Common.{◌≡◌, ℕ, sym, ap, ◌∙◌, subst}
use Rattle.std.specs.Prelude.{Option as Maybe}
use Rattle.atomic_table.specs.Table.{Me}
use Rattle.go_core.specs.Frame.{Frame}
use Rattle.go_rule.specs.declared.view.SeatView.{SeatView}
use Rattle.go_rule.specs.Meaning.{Meaning}
use Rattle.go_rule.specs.Turns.{IsTaken}
use Rattle.go_rule.specs.Views.{with_raised}
use Rattle.go_turns.specs.Going.{KnowsMore}
use Rattle.go_turns.specs.Holding.{Takes, MayGive, Gives}
use Rattle.go_turns.proofs.Handing.{view_is, holds_on}
use Rattle.go_turns.proofs.Going.{gone_unmoved}

-- a seat knows of the log what it knew
pub record KnowsSame {P : Type 0} (d e : SeatView P) : Type 0 where
  pub seen : e.told.seen ≡ d.told.seen
  pub seen_to : e.core.seen ≡ d.core.seen
  pub archived : e.core.archived ≡ d.core.archived
  pub durable : e.core.durable ≡ d.core.durable

module _ {P : Type 0} (m : Meaning P) where
  -- a part under other names
  pub may_at : (f : Frame) (k place : ℕ) (p part : P) (me : Me (Maybe P) (SeatView P)) → k ≡ place → p ≡ part → MayGive m f place part me → MayGive m f k p me
  may_at f k place p part me at is may = subst (λ j. MayGive m f j p me) (sym at) (subst (λ q. MayGive m f place q me) (sym is) may)

  pub gives_at : (k place : ℕ) (p part : P) (me now : Me (Maybe P) (SeatView P)) → k ≡ place → p ≡ part → Gives m k p me now → Gives m place part me now
  gives_at k place p part me now at is gives = subst (λ q. Gives m place q me now) is (subst (λ j. Gives m j p me now) at gives)

  -- what is told of a part is told where the flag was raised, too
  told_raised : (f : Frame) (d : SeatView P) (place : ℕ) (part : P) (why : ℕ) → IsTaken m f d place part → IsTaken m f (with_raised why d) place part
  told_raised f d place part why t =
      record {
        log = t.log;
        over = record { seen = t.over.seen; below = t.over.below; within = t.over.within; stands = t.over.stands };
        fits = t.fits;
        stood = t.stood;
        shard =
            λ shard.
            let s = t.shard shard in
            record { in_hand = s.in_hand; own = s.own; kept = s.kept; reached = s.reached; pins = s.pins };
        file =
            λ file.
            let s = t.file file in
            record { front_from = s.front_from; clock = s.clock; faults = s.faults; spent = s.spent; recovers = s.recovers };
      }

  -- a part that was taken, after which the flag was raised, might have been taken after that
  pub takes_raised : (f : Frame) (place : ℕ) (part : P) (me now : Me (Maybe P) (SeatView P)) (why : ℕ) → Takes m f place part me now
      → Takes m f place part (with_raised why me.0, me.1) (with_raised why now.0, now.1)
  takes_raised f place part me now why t =
      record {
        turn =
            record {
              part = t.turn.part;
              becomes = ap (λ z. (with_raised why z.0, z.1)) t.turn.becomes;
              free = t.turn.free;
              about = t.turn.about;
              taken = told_raised f me.0 place t.turn.part why t.turn.taken;
            };
        holds = record { noted = t.holds.noted; once = t.holds.once; slot = t.holds.slot };
      }

  module _ (f : Frame) (place : ℕ) (old new : P) (me now then after : Me (Maybe P) (SeatView P)) (takes : Takes m f place old me now) where
    -- the steps of a turn tell nothing of the log
    pub turn_same : then.0.stake.notes ≡ now.0.stake.notes → then.1 ≡ now.1 → KnowsSame now.0 then.0 → Gives m place new then after
        → KnowsSame me.0 after.0
    turn_same notes hand still gives =
        let gave = gives old me.0.stake.notes me.1 (holds_on place old me.0.stake.notes me.1 now then notes hand takes.holds) in
        let view = view_is m f place old me now takes in
        record {
          seen = ap (λ z. z.0.told.seen) gave ∙ still.seen ∙ ap (λ d. d.told.seen) view;
          seen_to = ap (λ z. z.0.core.seen) gave ∙ still.seen_to ∙ ap (λ d. d.core.seen) view;
          archived = ap (λ z. z.0.core.archived) gave ∙ still.archived ∙ ap (λ d. d.core.archived) view;
          durable = ap (λ z. z.0.core.durable) gave ∙ still.durable ∙ ap (λ d. d.core.durable) view;
        }

    -- nor does it forget anything as the turn is taken
    pub turn_knows_taken : KnowsMore me.0 now.0
    turn_knows_taken =
        let still = (gone_unmoved f me.0).knows in
        subst (KnowsMore me.0) (sym (view_is m f place old me now takes))
        (record {
          begins = still.begins;
          seen = still.seen;
          taken = still.taken;
          head = still.head;
          archived = still.archived;
          durable = still.durable;
          passed = still.passed;
          flagged = still.flagged;
        })

    -- and given back
    pub turn_knows_given : then.0.stake.notes ≡ now.0.stake.notes → then.1 ≡ now.1 → Gives m place new then after → KnowsMore then.0 after.0
    turn_knows_given notes hand gives =
        let gave = gives old me.0.stake.notes me.1 (holds_on place old me.0.stake.notes me.1 now then notes hand takes.holds) in
        let still = (gone_unmoved f then.0).knows in
        subst (KnowsMore then.0) (sym (ap (λ z. z.0) gave))
        (record {
          begins = still.begins;
          seen = still.seen;
          taken = still.taken;
          head = still.head;
          archived = still.archived;
          durable = still.durable;
          passed = still.passed;
          flagged = still.flagged;
        })
