-- What a read of the log's file gives, as what the file goes back, and what stops it.
use Rattle.std.proofs.Common.{◌≡◌, ℕ, ◌-◌, ◌≤◌, Bool, true, false, List, [], length, sym, refl, ap, ◌∙◌, inl, arith, subst}
use Rattle.std.specs.Prelude.{Some, None, Option as Maybe, IfSome, IsSome, nat_lt, ◌||◌}
use Rattle.std.proofs.lemmas.Bool.{false≢true}
use Rattle.atomic_table.specs.Table.{Me, step}
use mathlib.Core.Option.{none}
use Rattle.go_text.specs.Causes.{Rose}
use Rattle.go_word.specs.declared.edge.Edge.{Edge}
use Rattle.go_api.specs.declared.stop.Stop.{Stop}
use Rattle.go_api.specs.declared.stop.Stop.TheVariants as stops
use Rattle.go_core.specs.Frame.{Frame}
use Rattle.go_core.specs.Parts.{Mark, IsFilePlace}
use Rattle.go_disk.specs.Device.{Device, IsDevice}
use Rattle.go_durable.specs.Journal.{journal_front, is_spent, KeepsOn}
use Rattle.go_durable.specs.JournalRanging.{IsRanged}
use Rattle.go_durable.specs.LogState.{LogState}
use Rattle.go_durable.specs.declared.journal.Journal.{Journal}
use Rattle.go_durable.specs.declared.journal.Journal.TheVariants as journals
use Rattle.go_rule.specs.declared.view.About.{About}
use Rattle.go_rule.specs.declared.view.SeatView.{SeatView}
use Rattle.go_rule.specs.Steps.{LoadsFlag}
use Rattle.go_rule.specs.Views.{with_raised}
use Rattle.go_ring.specs.Calls.{cause_of}
use Rattle.go_turns.specs.Going.{HasGoneOn}
use Rattle.go_turns.specs.Holding.{Takes, MayGive, Gives}
use Rattle.go_turns.proofs.Handing.{told_of, view_is, may_give}
use Rattle.go_turns.proofs.Going.{gone_nowhere, gone_flag, gave_back}
use Rattle.go_turns.proofs.Unchanged.{may_return}
use Rattle.go_piece.specs.declared.piece.Piece.{Piece}
use Rattle.go_piece.specs.declared.piece.Piece.TheVariants.{Log}
use Rattle.go_piece.specs.Pieces.{file_of}
use Rattle.go_piece.specs.Meanings.{meaning_of, stretch, IsLogInHand}
use Rattle.go_piece.proofs.FileCalls.{keeps_now, log_in_hand, file_read}
use Rattle.go_piece.proofs.Stretches.{seen_next}
use Rattle.go_stream.specs.Updates.{HasFailed, IsRead, Stops}
use Rattle.go_stream.proofs.Turns.{KnowsSame, takes_raised, turn_same, turn_knows_taken, turn_knows_given}

-- what holds of that which is told, where something is
of_told : {A : Type 0} (P : Type 0) (o : Maybe A) → IsSome o → IfSome o (λ x. P) → P
of_told P None told one = absurd (false≢true told)
of_told P (Some x) told one = one

-- either is true where the other is
or_true : (b : Bool) → (b || true) ≡ true
or_true true = refl
or_true false = refl

raised_by : (b : Bool) (why : Stop) → (b || nat_lt 0 (cause_of why)) ≡ true
raised_by b stops.Disk = or_true b
raised_by b stops.Memory = or_true b

module _ {D : Type 0} (device : Device D) where
  -- the entries that were read are those that the seat has seen, where each disk tells that the ring may have been made with
  pub read_entries : (about : About) (seen : List Edge) (place : ℕ) (kept : LogState D) (journal : Journal D) (from to : ℕ) (list : List Edge)
      → IsLogInHand device about seen place kept
      → IsRanged device (record { from = from; upto = to; before = []; after = list }) (journals.Sound kept) journal
      → from ≤ to → to ≤ length seen → about.tells ≡ true → list ≡ stretch from to seen
  read_entries about seen place kept journal from to list held ranged order within told =
      let left = held.left in
      let one = of_told _ (device.contents left.opened) (ap (λ (m : Mark). m.tells) left.at ∙ told)
      (ranged.shown about.vertices about.first held.log left.opened left.keeps) in
      one.added ∙ sym (seen_next from (to - from) held.log seen held.begins (omega arith))

  -- a disk that failed as its log was read counts a fault more
  pub fault_rose : IsDevice device → (about : About) (seen : List Edge) (place : ℕ) (kept : LogState D) (journal : Journal D)
      → IsLogInHand device about seen place kept → KeepsOn device [] (journals.Sound kept) journal → is_spent journal ≡ true
      → (disk : D) × Rose (device.faults kept.disk) (device.faults disk)
  fault_rose rules about seen place kept (journals.Sound new) held on spent = absurd (false≢true spent)
  fault_rose rules about seen place kept (journals.Spent disk front) held on spent =
      let keeps = held.left.keeps in
      let now = on.keeps kept.vertices about.first held.log kept.disk (keeps_now device rules about.first held.log kept keeps.has.stands keeps.least) refl in
      (disk, now.has.rose)

  module _ (f : Frame) (place : ℕ) (here : IsFilePlace f place) (me now : Me (Maybe (Piece D)) (SeatView (Piece D))) where
    -- what the seat may tell of the log in its hand
    pub in_hand : (kept : LogState D) → Takes (meaning_of device) f place (Log kept) me now → IsLogInHand device now.0.about now.0.told.seen place kept
    in_hand kept takes =
        subst (λ d. IsLogInHand device d.about d.told.seen place kept) (sym (view_is (meaning_of device) f place (Log kept) me now takes))
        (log_in_hand device f me.0 place kept here (told_of (meaning_of device) f place (Log kept) me now takes))

    -- the entries were read, and the file was given back
    pub is_read : (kept : LogState D) (journal : Journal D) (from to : ℕ) (list : List Edge) (after : Me (Maybe (Piece D)) (SeatView (Piece D)))
        → Takes (meaning_of device) f place (Log kept) me now
        → IsRanged device (record { from = from; upto = to; before = []; after = list }) (journals.Sound kept) journal
        → from ≤ to → to ≤ length me.0.told.seen → Gives (meaning_of device) place (file_of journal) now after → IsRead device f from to me.0 after.0 list
    is_read kept journal from to list after takes ranged order within gives =
        let gone =
        (gave_back (meaning_of device) f place (Log kept) (file_of journal) me now now after takes (gone_nowhere f now.0) refl gives
        (λ shard. absurd (omega arith))).0
        in
        let same =
        turn_same (meaning_of device) f place (Log kept) (file_of journal) me now now after takes refl refl
        (record { seen = refl; seen_to = refl; archived = refl; durable = refl }) gives
        in
        let held = log_in_hand device f me.0 place kept here (told_of (meaning_of device) f place (Log kept) me now takes) in
        let many = ranged.so_many in
        record {
          on = gone;
          seen = same.seen;
          seen_to = same.seen_to;
          archived = same.archived;
          durable = same.durable;
          so_many = omega arith;
          shown = λ told.
              subst (λ s. list ≡ stretch from to s) (sym same.seen)
              (read_entries me.0.about me.0.told.seen place kept journal from to list held ranged order within
              (ap (λ z. z.about.tells) (sym gone.rest) ∙ told));
        }

    -- the file as it was read may be given back; where its disk failed, once the flag was raised
    pub may_give_read : IsDevice device → (kept : LogState D) (journal : Journal D) → Takes (meaning_of device) f place (Log kept) me now
        → KeepsOn device [] (journals.Sound kept) journal → journal_front journal ≡ kept.front → is_spent journal ≡ false
        → MayGive (meaning_of device) f place (file_of journal) now
    may_give_read rules kept journal takes on same sound =
        may_give (meaning_of device) f place (Log kept) me now takes (file_of journal) now refl refl
        (file_read device f now.0 place rules kept (in_hand kept takes) journal here on same (λ spent. absurd (false≢true (sym sound ∙ spent))))

    pub may_give_failed : IsDevice device → (kept : LogState D) (journal : Journal D) (then : Me (Maybe (Piece D)) (SeatView (Piece D)))
        → Takes (meaning_of device) f place (Log kept) me now → KeepsOn device [] (journals.Sound kept) journal → journal_front journal ≡ kept.front
        → then ≡ (with_raised 1 now.0, now.1) → MayGive (meaning_of device) f place (file_of journal) then
    may_give_failed rules kept journal then takes on same raised =
        subst (MayGive (meaning_of device) f place (file_of journal)) (sym raised)
        (may_give (meaning_of device) f place (Log kept) me now takes (file_of journal) (with_raised 1 now.0, now.1) refl refl
        (file_read device f (with_raised 1 now.0) place rules kept (in_hand kept takes) journal here on same (λ spent. refl)))

    -- one that had failed may be given back once the flag was found up
    pub may_give_spent : (words : ℕ) (part : Piece D) (why : Stop) (then : Me (Maybe (Piece D)) (SeatView (Piece D)))
        → Takes (meaning_of device) f place part me now → LoadsFlag (step words 3 0 0 none) now (cause_of why) then
        → MayGive (meaning_of device) f place part then
    may_give_spent words part why then takes load =
        may_return (meaning_of device) f place part me now then takes (ap (λ z. z.0.stake.notes) load.becomes) (ap (λ z. z.1) load.becomes)
        (ap (λ z. z.0.about) load.becomes)
        (λ file spent. ap (λ z. z.0.told.flagged) load.becomes ∙ raised_by now.0.told.flagged why)

    module _ (old new : Piece D) (after : Me (Maybe (Piece D)) (SeatView (Piece D))) (takes : Takes (meaning_of device) f place old me now) where
      -- after the file was taken and given back, the seat has gone on
      pub gone_turn : Gives (meaning_of device) place new now after → HasGoneOn f me.0 after.0
      gone_turn gives =
          (gave_back (meaning_of device) f place old new me now now after takes (gone_nowhere f now.0) refl gives (λ shard. absurd (omega arith))).0

      -- and so it has where it raised the flag in between
      pub gone_failed : (then : Me (Maybe (Piece D)) (SeatView (Piece D))) → then ≡ (with_raised 1 now.0, now.1)
          → Gives (meaning_of device) place new then after → HasGoneOn f (with_raised 1 me.0) after.0
      gone_failed then raised gives =
          (gave_back (meaning_of device) f place old new (with_raised 1 me.0, me.1) (with_raised 1 now.0, now.1) (with_raised 1 now.0, now.1) after
          (takes_raised (meaning_of device) f place old me now 1 takes) (gone_nowhere f (with_raised 1 now.0)) refl
          (subst (λ z. Gives (meaning_of device) place new z after) raised gives) (λ shard. absurd (omega arith))).0

      pub same_failed : (then : Me (Maybe (Piece D)) (SeatView (Piece D))) → then ≡ (with_raised 1 now.0, now.1)
          → Gives (meaning_of device) place new then after → KnowsSame me.0 after.0
      same_failed then raised gives =
          turn_same (meaning_of device) f place old new me now then after takes (ap (λ z. z.0.stake.notes) raised) (ap (λ z. z.1) raised)
          (record {
            seen = ap (λ z. z.0.told.seen) raised;
            seen_to = ap (λ z. z.0.core.seen) raised;
            archived = ap (λ z. z.0.core.archived) raised;
            durable = ap (λ z. z.0.core.durable) raised;
          })
          gives

      -- or found it up
      pub stops_spent : (words : ℕ) (why : Stop) (then : Me (Maybe (Piece D)) (SeatView (Piece D))) → LoadsFlag (step words 3 0 0 none) now (cause_of why) then
          → Gives (meaning_of device) place new then after → Stops device f words why me after
      stops_spent words why then load gives = answer why load
        where
          gone : (cause : Stop) → LoadsFlag (step words 3 0 0 none) now (cause_of cause) then → HasGoneOn f me.0 after.0
          gone cause load' =
              (gave_back (meaning_of device) f place old new me now then after takes
              (gone_flag f (step words 3 0 0 none) now then (cause_of cause) load') (ap (λ z. z.1) load'.becomes) gives (λ shard. absurd (omega arith))).0

          answer : (cause : Stop) → LoadsFlag (step words 3 0 0 none) now (cause_of cause) then → Stops device f words cause me after
          answer stops.Disk load' =
              inl (record {
                before = now;
                after = then;
                came = turn_knows_taken (meaning_of device) f place old new me now then after takes;
                load = load';
                left = turn_knows_given (meaning_of device) f place old new me now then after takes
                    (ap (λ z. z.0.stake.notes) load'.becomes) (ap (λ z. z.1) load'.becomes) gives;
                on = gone stops.Disk load';
              })
          answer stops.Memory load' = gone stops.Memory load'

    -- the disk failed in hand
    pub has_failed : IsDevice device → (kept : LogState D) (journal : Journal D) (then after : Me (Maybe (Piece D)) (SeatView (Piece D)))
        → Takes (meaning_of device) f place (Log kept) me now → KeepsOn device [] (journals.Sound kept) journal → is_spent journal ≡ true
        → then ≡ (with_raised 1 now.0, now.1) → Gives (meaning_of device) place (file_of journal) then after → HasFailed device f me.0 after.0
    has_failed rules kept journal then after takes on spent raised gives =
        let held = in_hand kept takes in
        let gone = gone_failed (Log kept) (file_of journal) after takes then raised gives in
        let same = same_failed (Log kept) (file_of journal) after takes then raised gives in
        let view = view_is (meaning_of device) f place (Log kept) me now takes in
        let about : after.0.about ≡ now.0.about = ap (λ z. z.about) gone.rest ∙ sym (ap (λ d. d.about) view) in
        let seen : after.0.told.seen ≡ now.0.told.seen = same.seen ∙ sym (ap (λ d. d.told.seen) view) in
        let rose = fault_rose rules now.0.about now.0.told.seen place kept journal held on spent in
        record {
          kept = kept;
          held = subst (λ a. IsLogInHand device a after.0.told.seen a.shards kept) (sym about)
              (subst (λ s. IsLogInHand device now.0.about s now.0.about.shards kept) (sym seen)
              (subst (λ p. IsLogInHand device now.0.about now.0.told.seen p kept) held.fits.0 held));
          disk = rose.0;
          rose = rose.1;
          on = gone;
        }
