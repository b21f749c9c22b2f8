-- For callers too: what is told of a part in hand, and what a seat has in hand while it takes other steps.
use Rattle.std.proofs.Common.{◌≡◌, ℕ, List, ◌∷◌, sym, refl, ap, ◌∙◌, ⊎_elim, arith, subst}
use Rattle.std.specs.Prelude.{Some, None, Option as Maybe}
use Rattle.std.proofs.lemmas.Option.{same_Some}
use Rattle.atomic_table.specs.Table.{Me, rest}
use Rattle.go_core.specs.Frame.{Frame}
use Rattle.go_rule.specs.declared.view.Note.{Note}
use Rattle.go_rule.specs.declared.view.SeatView.{SeatView}
use Rattle.go_rule.specs.Meaning.{Meaning}
use Rattle.go_rule.specs.Views.{with_unmoved}
use Rattle.go_rule.specs.Turns.{taking, giving, IsTaken, TakesPart, CanGive, IsInSlot, GivesPart}
use Rattle.go_rule.proofs.TurnCalls.{headed, value_is, given_is}
use Rattle.go_turns.specs.Holding.{Holds, Takes, Tries, MayGive, Gives}

module _ {P : Type 0} where
  -- a step that leaves the notes of parts and the slots in hand as they are leaves the part in hand
  pub holds_on : (place : ℕ) (part : P) (older : List (Note P)) (slots : List (ℕ × Maybe P)) (me now : Me (Maybe P) (SeatView P))
      → now.0.stake.notes ≡ me.0.stake.notes → now.1 ≡ me.1 → Holds place part older slots me → Holds place part older slots now
  holds_on place part older slots me now notes hand h = record { noted = notes ∙ h.noted; once = h.once; slot = hand ∙ h.slot }

module _ {P : Type 0} (m : Meaning P) where
  -- a part that is put into its slot lies there, as it was noted
  pub lies_again : (place : ℕ) (old part : P) (older : List (Note P)) (slots : List (ℕ × Maybe P)) (me then : Me (Maybe P) (SeatView P))
      → then ≡ (me.0, (place, Some part) ∷ rest me.1) → Holds place old older slots me → IsInSlot m place then old part older
  lies_again place old part older slots me then put h =
      record {
        noted = ap (λ z. z.0.stake.notes) put ∙ h.noted;
        once = h.once;
        slot = headed then.1 _ (place, Some part) (ap (λ z. z.1) put);
      }

  module _ (f : Frame) (place : ℕ) (part : P) (me now : Me (Maybe P) (SeatView P)) (t : Takes m f place part me now) where
    -- the part that came with the turn is the one in hand
    pub part_is : t.turn.part ≡ part
    part_is = same_Some t.turn.part part (value_is (Some t.turn.part) (Some part) ((place, Some part) ∷ me.1) _ _ (ap (λ z. z.1) t.turn.becomes) refl)

    -- so the seat is told of this one what go_rule says
    pub told_of : IsTaken m f me.0 place part
    told_of = subst (IsTaken m f me.0 place) part_is t.turn.taken

    -- and its view has noted this one
    pub view_is : now.0 ≡ taking place part me.0
    view_is = ap (λ z. z.0) t.turn.becomes ∙ ap (λ p. taking place p me.0) part_is

    -- after steps that left that as it is, the part may be given back as another where this is lawful by now
    pub may_give : (new : P) (then : Me (Maybe P) (SeatView P)) → then.0.stake.notes ≡ now.0.stake.notes → then.1 ≡ now.1
        → CanGive m f then.0 place part new → MayGive m f place new then
    may_give new then notes hand can =
        record {
          old = part;
          older = me.0.stake.notes;
          slots = me.1;
          holds = holds_on place part me.0.stake.notes me.1 now then notes hand t.holds;
          can = can;
        }

  -- where the turn was found taken, the seat was told nothing
  pub refused : (f : Frame) (slots place : ℕ) (me : Me (Maybe P) (SeatView P)) (now : Me (Maybe P) (SeatView P)) → Tries m f slots place me None now
      → now ≡ (with_unmoved me.0, me.1)
  refused f slots place me now tries = ⊎_elim (λ free. let one = free.0 in absurd (omega arith)) (λ held. held.1) tries

  -- a part that came with its turn, and was taken out of its slot
  pub taken_out : (f : Frame) (place : ℕ) (me between now : Me (Maybe P) (SeatView P)) (out : Maybe P) (part : P) → TakesPart m f place me between
      → between.1 ≡ (place, out) ∷ rest between.1 → out ≡ Some part → now ≡ (between.0, (place, None) ∷ rest between.1) → Takes m f place part me now
  taken_out f place me between now out part t lay is put =
      let same : t.part ≡ part = same_Some t.part part (value_is (Some t.part) out between.1 _ _ (ap (λ z. z.1) t.becomes) lay ∙ is) in
      let view : now.0 ≡ taking place t.part me.0 = ap (λ z. z.0) put ∙ ap (λ z. z.0) t.becomes in
      let full : between ≡ (now.0, (place, Some part) ∷ me.1) =
      t.becomes ∙ ap (λ p. (taking place t.part me.0, (place, Some p) ∷ me.1)) same ∙ ap (λ d. (d, (place, Some part) ∷ me.1)) (sym view)
      in
      record {
        turn = subst (TakesPart m f place me) full t;
        holds =
            record {
              noted = ap (λ d. d.stake.notes) view ∙ ap (λ p. record { place = place; part = p } ∷ me.0.stake.notes) same;
              once = t.free;
              slot = ap (λ z. z.1) put ∙ ap (λ xs. (place, None) ∷ rest xs) (ap (λ z. z.1) t.becomes);
            };
      }

  -- what is told of a part after a step that told nothing, is told without it
  pub told_before : (f : Frame) (d : SeatView P) (place : ℕ) (part : P) → IsTaken m f (with_unmoved d) place part → IsTaken m f d place part
  told_before f d place part t =
      record {
        log = t.log;
        over = record { seen = t.over.seen; below = t.over.below; within = t.over.within; stands = t.over.stands };
        fits = t.fits;
        stood = t.stood;
        shard =
            λ shard.
            let s = t.shard shard in
            record { in_hand = s.in_hand; own = s.own; kept = s.kept; reached = s.reached; pins = s.pins };
        file =
            λ file.
            let s = t.file file in
            record { front_from = s.front_from; clock = s.clock; faults = s.faults; spent = s.spent; recovers = s.recovers };
      }

  -- so a part that is taken after tries was taken as by the first of them
  pub takes_before : (f : Frame) (place : ℕ) (part : P) (me before now : Me (Maybe P) (SeatView P)) → before ≡ (with_unmoved me.0, me.1)
      → Takes m f place part before now → Takes m f place part me now
  takes_before f place part me before now same takes =
      let t : Takes m f place part (with_unmoved me.0, me.1) now = subst (λ b. Takes m f place part b now) same takes in
      record {
        turn =
            record {
              part = t.turn.part;
              becomes = t.turn.becomes;
              free = t.turn.free;
              about = t.turn.about;
              taken = told_before f me.0 place t.turn.part t.turn.taken;
            };
        holds = t.holds;
      }

  -- a part that was put into its slot, and went with its turn, was given back
  pub given_back : (place : ℕ) (part : P) (me then now : Me (Maybe P) (SeatView P)) → then ≡ (me.0, (place, Some part) ∷ rest me.1)
      → GivesPart m place then now → Gives m place part me now
  given_back place part me then now put g old older slots h =
      let given : SeatView P → SeatView P = giving (record { place = place; part = old }) older (m.state_of old) (m.state_of part) in
      given_is m place then now g old part older (lies_again place old part older slots me then put h)
      ∙ ap (λ z. (given z.0, rest z.1)) put
      ∙ ap (λ xs. (given me.0, rest xs)) h.slot
