-- A turn is taken with the part of its place: the rule is kept, and what the seat is told of the part.
use Rattle.std.proofs.Common.{◌≡◌, ℕ, ◌+◌, ◌≤◌, true, false, cond, List, [], ◌∷◌, ◌++◌, length, set, take, drop, sym, refl, ap, ◌∙◌, inl}
use Rattle.std.proofs.Common.{inr, ⊎_elim, arith, subst}
use Rattle.std.specs.Prelude.{All, Some, slice_get, slice_index, find, is_some, ◌==◌, Option as Maybe}
use Rattle.std.proofs.lemmas.Bool.{cases_eq}
use Rattle.std.proofs.lemmas.List.{length-take-le, take-append-drop}
use Rattle.std.proofs.lemmas.List.Elements.{All-cons, All-weaker}
use mathlib.Core.Option.{none}
use Rattle.atomic_table.specs.Table.{State, Step, Me, Allows, keeps, takes}
use Rattle.go_word.specs.declared.edge.Edge.{Edge}
use Rattle.go_core.specs.Frame.{archived_in}
use Rattle.go_core.specs.Parts.{IsShardPlace, IsFilePlace, IsTurn, IsPinnedBy}
use Rattle.go_core.proofs.Lookups.{lookup-set_other}
use Rattle.go_core.proofs.Moved.{within_log, word_other}
use Rattle.go_core.proofs.Claims.{All-lookup}
use Rattle.go_core.proofs.Loads.{still_live}
use Rattle.go_core.proofs.PartLaws.{in_hand}
use Rattle.go_core.proofs.TurnLaws.{turn_taken, turn_same, turn_free}
use Rattle.go_core.proofs.Pinned.{pinned_set}
use Rattle.go_rule.specs.declared.layout.Key.{Key}
use Rattle.go_rule.specs.declared.view.About.{About}
use Rattle.go_rule.specs.declared.view.Note.{Note}
use Rattle.go_rule.specs.declared.view.Stake.{Stake}
use Rattle.go_rule.specs.declared.view.SeatView.{SeatView}
use Rattle.go_rule.specs.Meaning.{Meaning, IsLasting}
use Rattle.go_rule.specs.Views.{frame_of, about_of, with_unmoved}
use Rattle.go_rule.specs.Rule.{IsBelow, cores, has_note, pins_at, HasStood, IsSeat, IsRuledBy, IsRuled}
use Rattle.go_rule.specs.Turns.{mark_in, taking, IsStand, IsTakenShard, IsTakenFile, IsTaken, TakesPart, TakesTurn}
use Rattle.go_rule.proofs.Lists.{get_there, same_number, other_number}
use Rattle.go_rule.proofs.Beside.{IsRuledSeat, core_there, seen_within, beside_keeps}
use Rattle.go_rule.proofs.Turning.{turn_reads, views_then, view_then, Turned, turned_keeps, seats_then}
use Rattle.go_rule.proofs.WorkerSteps.{unmoved_beside}

module _ {P : Type 0} where
  -- a part that was noted is in the hand, and no other
  pub noted_here : (place : ℕ) (part : P) (notes : List (Note P))
      → is_some (find (λ (n : Note P). n.place == place) (record { place = place; part = part } ∷ notes)) ≡ true
  noted_here place part notes =
      ap (λ b. is_some (cond b (Some (record { place = place; part = part })) (find (λ (n : Note P). n.place == place) notes))) (same_number place)

  pub noted_other : (place other : ℕ) (part : P) (notes : List (Note P)) → (other ≡ place → ⊥)
      → is_some (find (λ (n : Note P). n.place == other) (record { place = place; part = part } ∷ notes))
      ≡ is_some (find (λ (n : Note P). n.place == other) notes)
  noted_other place other part notes ne =
      ap (λ b. is_some (cond b (Some (record { place = place; part = part })) (find (λ (n : Note P). n.place == other) notes)))
      (other_number place other (λ e. ne (sym e)))

module _ {P : Type 0} (m : Meaning P) (laws : IsLasting m) (key : Key P) where
  module _ (s : State (Maybe P) (SeatView P)) (log : List Edge) (parts : List P) (i : ℕ) (d : SeatView P) (ruled : IsRuledSeat m key s log parts i d)
      (place : ℕ) (within : place ≤ key.layout.shards) (part : P)
      (at_place : slice_get parts place ≡ Some part) where
    -- what the seat has in its stake then
    abbrev stake_then : Stake P
    stake_then = record d.stake { notes = record { place = place; part = part } ∷ d.stake.notes }

    about_is : d.about ≡ about_of (m.mark_of key.file.value) key
    about_is = (ruled.by.seats i d ruled.there).about ruled.live

    taken_seat : IsSeat m key log s.words parts (taking place part d)
    taken_seat =
        let seat = ruled.by.seats i d ruled.there in
        record {
          ended = λ dead. still_live d.core _ ruled.live dead;
          about = seat.about;
          told = seat.told;
          lot = seat.lot;
          kept = seat.kept;
          noted = All-cons (λ (n : Note P). slice_get parts n.place ≡ Some n.part) (record { place = place; part = part }) d.stake.notes at_place seat.noted;
          stood = seat.stood;
        }

    -- the turn is the seat's, and its part is out
    taken_turned : slice_index s.words (4 + place) ≡ 0
        → Turned m laws key s log parts i d ruled place within 1 stake_then (set s.homes place none) parts
    taken_turned zero =
        let views' = views_then m laws key s log parts i d ruled place within 1 stake_then in
        let w = view_then m laws key s log parts i d ruled place within 1 stake_then in
        let reads = turn_reads m laws key s log parts i d ruled place within 1 in
        record {
          held = ruled.by.held;
          seats = seats_then m laws key s log parts i d ruled place within 1 stake_then taken_seat (λ j u ne at_j. ruled.by.seats j u at_j);
          file = ruled.by.file;
          home = record {
            turn = λ place' within'.
                ⊎_elim
                (λ (here : place' ≡ place).
                subst (λ q. IsTurn (has_note q) (slice_index (set s.words (4 + place) 1) (4 + q)) views') (sym here)
                (subst (λ n. IsTurn (has_note place) n views') (sym reads)
                (turn_taken (has_note place) s.views i d w ruled.there (noted_here place part d.stake.notes)
                (subst (λ n. IsTurn (has_note place) n s.views) zero (ruled.by.home.turn place within)))))
                (λ (ne : place' ≡ place → ⊥).
                subst (λ n. IsTurn (has_note place') n views') (sym (word_other s.words (4 + place) (4 + place') 1 (λ e. ne (omega arith))))
                (turn_same (has_note place') s.views i d w (slice_index s.words (4 + place')) ruled.there (noted_other place place' part d.stake.notes ne)
                (ruled.by.home.turn place' within')))
                (cases_eq place' place);
            at_home = λ place' part' at' free.
                ⊎_elim
                (λ (here : place' ≡ place).
                let one : slice_index (set s.words (4 + place) 1) (4 + place') ≡ 1 = ap (λ q. slice_index (set s.words (4 + place) 1) (4 + q)) here ∙ reads in
                absurd (omega arith))
                (λ (ne : place' ≡ place → ⊥).
                lookup-set_other s.homes place place' none ne
                ∙ ruled.by.home.at_home place' part' at' (sym (word_other s.words (4 + place) (4 + place') 1 (λ e. ne (omega arith))) ∙ free))
                (cases_eq place' place);
          };
          pinned = λ place' part' at' shard.
              pinned_set (pins_at place') (λ z. []) (λ z. false) (m.state_of part').pins s.views i d w ruled.there
              (let old : IsPinnedBy (pins_at place') (λ z. []) (λ z. false) (m.state_of part').pins d =
              All-lookup (IsPinnedBy (pins_at place') (λ z. []) (λ z. false) (m.state_of part').pins) s.views i d
              (ruled.by.pinned place' part' at' shard).each ruled.there
              in
              record { pinned = old.pinned; none_put = λ free. refl })
              (λ id owns. owns) (ruled.by.pinned place' part' at' shard);
        }

    -- what the seat is told of a shard
    taken_shard : IsShardPlace (frame_of key) place → IsTakenShard m d place part
    taken_shard shard =
        let core = core_there m laws key s log parts ruled.by i d ruled.there in
        let known = (ruled.by.tied.seated i d.core core).knows in
        record {
          in_hand = in_hand d.core.archived (archived_in s.words) (m.state_of part) known.archived_to (ruled.by.held.of.shards place part at_place shard);
          own = ruled.by.held.own place part at_place shard;
          kept = (ruled.by.seats i d ruled.there).kept ruled.live place part at_place shard;
          reached = λ role. ruled.by.held.of.reached place part at_place shard i d.core core role;
          pins = (All-lookup (IsPinnedBy (pins_at place) (λ z. []) (λ z. false) (m.state_of part).pins) s.views i d
              (ruled.by.pinned place part at_place shard).each ruled.there).pinned refl;
        }

    -- and of the file
    taken_file : IsFilePlace (frame_of key) place → IsTakenFile m d log part
    taken_file file =
        let known = (ruled.by.tied.seated i d.core (core_there m laws key s log parts ruled.by i d ruled.there)).knows in
        let far = ruled.by.held.of.file place part at_place file in
        let durable = known.durable_to in
        let is = ruled.by.file place part at_place file in
        let recovered = is.recovered in
        let clock : d.about.clock ≡ (m.mark_of key.file.value).clock = ap (λ (a : About). a.clock) about_is in
        let faults : d.about.faults ≡ (m.mark_of key.file.value).faults = ap (λ (a : About). a.faults) about_is in
        let old = is.clock in
        let rose = is.faults in
        record {
          front_from = omega arith;
          clock = omega arith;
          faults = omega arith;
          spent = λ gone. (let both = is.spent gone in let more = both.0 in omega arith);
          recovers = subst (λ (a : About). m.recovers part log a.vertices a.first (mark_in a)) (sym about_is)
              (subst (λ l. m.recovers part l key.layout.vertices key.first (m.mark_of key.file.value)) (take-append-drop recovered.upto log)
              (laws.recovers_on part (take recovered.upto log) (drop recovered.upto log) key.layout.vertices key.first (m.mark_of key.file.value)
              recovered.recovers));
        }

    taken_is : IsTaken m (frame_of key) d place part
    taken_is =
        let seat = ruled.by.seats i d ruled.there in
        let seen = seen_within m laws key s log parts ruled.by i d ruled.there i d ruled.there in
        let of = ruled.by.held.of.of_log place part at_place in
        record {
          log = log;
          over = record {
            seen = seat.told.seen_is ∙ ap (λ n. take n log) (sym (ap length seat.told.seen_is ∙ length-take-le d.core.seen log seen));
            below = subst (λ (a : About). All (IsBelow a.vertices) log) (sym about_is) ruled.by.logged.below;
            within = within_log log (cores s.views) (m.state_of part).front of.written;
            stands = subst (λ (a : About). m.stands_for part a.first log) (sym about_is) of.stands;
          };
          fits = subst (λ (a : About). m.fits part place a.shards a.vertices) (sym about_is) (ruled.by.held.fits place part at_place);
          stood = All-weaker (HasStood m (frame_of key) parts) (IsStand m (frame_of key) place part)
              (λ x stood. record {
                reached = λ here. stood.reached part (ap (slice_get parts) here ∙ at_place);
                kept = λ here shard. stood.kept part (ap (slice_get parts) here ∙ at_place) (subst (IsShardPlace (frame_of key)) (sym here) shard);
              }) d.stake.stood seat.stood;
          shard = taken_shard;
          file = taken_file;
        }

    taken_part : (hand : List (ℕ × Maybe P)) → slice_index s.words (4 + place) ≡ 0
        → TakesPart m (frame_of key) place (d, hand) (taking place part d, (place, Some part) ∷ hand)
    taken_part hand zero =
        record {
          part = part;
          becomes = refl;
          free = turn_free (has_note place) s.views i d ruled.there (subst (λ n. IsTurn (has_note place) n s.views) zero (ruled.by.home.turn place within));
          about = (
            let shards : d.about.shards ≡ key.layout.shards = ap (λ (a : About). a.shards) about_is in omega arith,
            ap (λ (a : About). a.first) about_is,
          );
          taken = taken_is;
        }

  pub take_allowed : (slots id : ℕ) (me : Me (Maybe P) (SeatView P)) → me.0.core.live ≡ true → (step : Step (Maybe P)) (place : ℕ) → place ≤ key.layout.shards
      → Allows (IsRuled m key) slots id me (4 + place) (λ _. 1) (TakesTurn m (frame_of key) place step me)
  take_allowed slots id me live step place within s holds many there small =
      let log = holds.log in
      let parts = holds.parts in
      let by = holds.by in
      let d = me.0 in
      let ruled : IsRuledSeat m key s log parts id d = record { by = by; there = there; live = live } in
      let count = by.held.count in
      let found = get_there parts place (omega arith) in
      let few = (by.home.turn place within).one in
      ⊎_elim
      (λ (zero : slice_index s.words (4 + place) ≡ 0).
      let now : IsRuled m key (record { words = set s.words (4 + place) 1; homes = set s.homes place none; views = set s.views id (taking place found.0 d) }) =
      record {
        log = log;
        parts = parts;
        by = turned_keeps m laws key s log parts id d ruled place within 1 _ (taken_turned s log parts id d ruled place within found.0 found.1 zero);
      }
      in (
        taking place found.0 d,
        takes place (Some found.0),
        by.home.at_home place found.0 found.1 zero,
        now,
        inl (zero, taken_part s log parts id d ruled place within found.0 found.1 me.1 zero),
      ))
      (λ (ne : slice_index s.words (4 + place) ≡ 0 → ⊥).
      let one : slice_index s.words (4 + place) ≡ 1 = is_one (slice_index s.words (4 + place)) few ne in
      let now : IsRuled m key (record { words = set s.words (4 + place) 1; homes = s.homes; views = set s.views id (with_unmoved d) }) =
      record {
        log = log ++ [];
        parts = parts;
        by = subst
            (λ n. IsRuledBy m key (record { words = set s.words (4 + place) n; homes = s.homes; views = set s.views id (with_unmoved d) }) (log ++ []) parts)
            one
            (beside_keeps m laws key s log parts by id d there (with_unmoved d) _ [] (unmoved_beside m laws key s log parts id d ruled (4 + place)));
      }
      in
      (with_unmoved d, keeps, tt, now, inr (one, refl)))
      (cases_eq (slice_index s.words (4 + place)) 0)
    where
      is_one : (n : ℕ) → n ≤ 1 → (n ≡ 0 → ⊥) → n ≡ 1
      is_one n few ne = omega arith
