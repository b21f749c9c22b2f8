-- Turns of sessions over one store: what they keep, and when a round is the last.
use Rattle.std.proofs.Common.{◌≡◌, ◌≢◌, ℕ, suc, ◌+◌, ◌-◌, ◌<◌, ◌≤◌}
use Rattle.std.proofs.Common.{Bool, true, false, List, [], ◌∷◌, length, take, set}
use Rattle.std.proofs.Common.{slice_get, get_or, Some, sum_by, ap, arith, sym, subst, ◌∙◌, inl, inr}
use Rattle.std.specs.Prelude.{All}
use Rattle.std.proofs.lemmas.Bool.{false≢true}
use Rattle.std.proofs.lemmas.Bool.Decides.{leb_tells}
use Rattle.std.proofs.lemmas.List.{take_all, take-append-le, length-set, length-append}
use Rattle.std.proofs.lemmas.List.Sums.{sum_by-set}
use Rattle.std.proofs.lemmas.Option.{slice_get_within, get_or_from_slice_get}
use Rattle.go_word.specs.declared.edge.Edge.{Edge}
use Rattle.go_api.specs.Alone.{positions}
use Rattle.go_api.specs.declared.stop.Stop.{Stop}
use Rattle.go_disk.specs.Device.{Device}
use Rattle.go_plain.specs.Owners.{owned}
use Rattle.go_plain.specs.Plain.{PlainState, standing_of, LooksAt}
use Rattle.go_report.specs.declared.reply.Reply.{Reply}
use Rattle.go_script.specs.declared.command.Command.{Command}
use Rattle.go_session.specs.Looks.{HasLooked}
use Rattle.go_session.specs.Session.{SessionState, CanGoOn, IsHalted, Stepped, told, put_in}
use Rattle.go_session.specs.declared.session.Step.{Step}
use Rattle.go_session.specs.declared.session.Step.TheVariants.{Did, Waits, Ended, Stopped}
use Rattle.go_run.specs.Driving.{CanTurn, CanAllTurn, IsSharedBy, GoOnOver, HasTurned, Turns}
use Rattle.go_run.specs.Driving.{InRound, in_turn, at_turn, HaveGone, HaveEnded, HaveStopped}
use Rattle.go_run.specs.Reading.{WaitsForCertain}
use Rattle.go_run.specs.Turns.{Aim, aim_of, total_put, commands_left, HasDone, IsQuiet}
use Rattle.go_run.proofs.BesideLemmas.{beside_keeps_can, standing_beside}
use Rattle.go_run.proofs.RoundLemmas.{puts_certain, all_done}
use Rattle.go_run.proofs.TurnParts.{waits_on, go_same, go_further, get_set, set_aims, aim_kept, IsGoing, IsResting, same_parts, put_same}
use Rattle.go_run.proofs.TurnParts.{can_after, can_halt, all_owned, sum_numbered, aims_long, rests, all_there}

module _ {D : Type 0} (device : Device D) (loads : List (List Edge)) where
  -- the log of a store has what was there at opening and what its sessions put
  total_there : (sessions : List SessionState) (store : PlainState D) → CanAllTurn device loads sessions store →
      store.origin.first + total_put loads sessions ≡ length store.log
  total_there sessions store can =
      let first = store.origin.first in
      let owners = store.owners in
      let shared = can.shared in
      let each = sum_numbered (λ s. length (put_in loads s)) (λ number. length (owned first number owners)) sessions 1
      (λ i s number here is.
      let at = (can.each i s here).can.at in
      let long : length (owned first (i + 1) owners) ≡ length (put_in loads s) = at.allowed.sound.owns.put ∙ ap (λ (l : List Edge). length l) at.put in
      sym long ∙ ap (λ (n : ℕ). length (owned first n owners)) (let e : i + 1 ≡ number = omega (arith, is) in e)) in
      let all = all_owned (length store.seats) first owners shared.owners.sessions in
      let count = ap (λ (n : ℕ). sum_by (λ number. length (owned first number owners)) (positions 1 n)) (sym shared.count) in
      omega (arith, each, all, count, shared.owners.each)

  -- where none waits for more than is certain to come, and each is quiet, all have come to their ends
  pub round_done : (sessions : List SessionState) (store : PlainState D) → CanAllTurn device loads sessions store → WaitsForCertain loads sessions →
      ((k : ℕ) (session : SessionState) → k < length sessions → slice_get sessions k ≡ Some session → IsQuiet (total_put loads sessions) session) →
      (i : ℕ) (session : SessionState) → slice_get sessions i ≡ Some session → HasDone session
  round_done sessions store can waits quiet = all_done loads sessions waits
      (λ k s here.
      let at = (can.each k s here).can.at in
      puts_certain loads s _ _ at.allowed.allowed)
      (λ k s here. quiet k s (slice_get_within sessions k s here) here)

  module _ (sessions : List SessionState) (i : ℕ) (old new : SessionState) (here : slice_get sessions i ≡ Some old) (step : Step) (before after : PlainState D)
      (can : CanAllTurn device loads sessions before) (turned : HasTurned device loads step (in_turn (i + 1) old before) (in_turn (i + 1) new after)) where
    same_aim : aim_of new ≡ aim_of old
    same_aim = aim_kept loads step old new _ _ turned.stepped

    -- all go on over the one store
    pub turn_onward : GoOnOver sessions (set sessions i new) before after
    turn_onward =
        let grows = turned.became.grows in
        record {
          aims = set_aims sessions i old new here same_aim;
          origin = turned.became.origin;
          room = turned.became.room;
          begins = ap (λ (l : List Edge). take (length before.log) l) grows.log ∙ take-append-le (length before.log) before.log grows.more (omega arith)
              ∙ take_all (length before.log) before.log (omega arith);
          longer = (let more = ap (λ (l : List Edge). length l) grows.log in let sum = length-append before.log grows.more in omega arith);
          no_less = turned.became.no_less;
        }

    turn_shared : IsSharedBy (set sessions i new) after
    turn_shared =
        let same = length-set sessions i new in
        let shared = can.shared in
        record {
          few = omega (arith, same, shared.few);
          count = omega (arith, same, shared.count, turned.became.others.count);
          owners = turned.owners;
        }

    -- each other one can go on
    other_can : (j : ℕ) (session : SessionState) → j ≢ i → slice_get sessions j ≡ Some session → CanGoOn loads session (standing_of device after (j + 1))
    other_can j session apart there =
        let was = (can.each j session there).can in
        beside_keeps_can loads session (standing_of device before (j + 1)) (standing_of device after (j + 1))
        (standing_beside device (i + 1) (j + 1) before after turned.became can.shared.owners.each (omega arith) (λ e. apart (omega (arith, e)))
        was.at.allowed.sound) was

    -- and the one itself, where it wasn't stopped
    pub turn_can : IsGoing step → CanAllTurn device loads (set sessions i new) after
    turn_can going = record {
      shared = turn_shared;
      each = λ j session there. elim (get_set sessions i j new session there) [
        | inl h ↦
            let was = can.each i old here in
            let now : CanGoOn loads new (standing_of device after (i + 1)) = can_after loads step old new _ _ turned.stepped was.can going in
            let lists : All (λ n. n < length loads) new.lists =
            subst (λ (l : List ℕ). All (λ n. n < length loads) l) (sym (ap (λ (a : Aim). a.lists) same_aim)) was.lists in
            let this : CanTurn device loads after (i + 1) new = record { can = now; lists = lists } in
            subst (λ (n : ℕ). CanTurn device loads after n session) (let e : i + 1 ≡ j + 1 = omega (arith, h.0) in e)
            (subst (λ (s : SessionState). CanTurn device loads after (i + 1) s) (sym h.1) this)
        | inr h ↦ record { can = other_can j session h.0 h.1; lists = (can.each j session h.1).lists }
      ];
    }

    -- where it was stopped, all stand over the store as it was left
    pub turn_stopped : (why : Stop) → step ≡ Stopped why → HaveStopped device loads sessions (set sessions i new) before after
    turn_stopped why is = record {
      halted = record {
        shared = turn_shared;
        each = λ j session there. elim (get_set sessions i j new session there) [
          | inl h ↦
              let stopped = subst (λ (s : Step). Stepped loads s old new (standing_of device before (i + 1)) (standing_of device after (i + 1))) is
              turned.stepped in
              subst (λ (n : ℕ). IsHalted loads session (standing_of device after n)) (let e : i + 1 ≡ j + 1 = omega (arith, h.0) in e)
              (subst (λ (s : SessionState). IsHalted loads s (standing_of device after (i + 1))) (sym h.1) stopped.halted)
          | inr h ↦ can_halt loads session (standing_of device after (j + 1)) (other_can j session h.0 h.1).at
        ];
      };
      onward = turn_onward;
    }

    -- how many commands are left of it, and of all
    left_turned : commands_left (set sessions i new) + (length old.commands - length old.replies)
        ≡ commands_left sessions + (length new.commands - length new.replies)
    left_turned =
        let left : SessionState → ℕ = λ s. length s.commands - length s.replies in
        let this = ap left (get_or_from_slice_get sessions i old old here) in
        omega (arith, sum_by-set left sessions i new old (slice_get_within sessions i old here), this)

    total_turned : length (put_in loads new) ≡ length (put_in loads old) → total_put loads (set sessions i new) ≡ total_put loads sessions
    total_turned same =
        let put : SessionState → ℕ = λ s. length (put_in loads s) in
        let this = ap put (get_or_from_slice_get sessions i old old here) in
        omega (arith, sum_by-set put sessions i new old (slice_get_within sessions i old here), this, same)

    -- one command fewer is left where one was answered
    pub turn_fewer : step ≡ Did → commands_left (set sessions i new) < commands_left sessions
    turn_fewer is =
        let did = subst (λ (s : Step). Stepped loads s old new (standing_of device before (i + 1)) (standing_of device after (i + 1))) is turned.stepped in
        let replies = ap (λ (s : SessionState). length s.replies) did.replied in
        let more = length-append old.replies (did.reply ∷ []) in
        let commands = ap (λ (s : SessionState). length s.commands) did.replied in
        let within = did.goes_on.at.allowed.follows.some in
        omega (arith, left_turned, replies, more, commands, within)

    -- and else nothing changed, and it is quiet
    same_replies : IsResting step → (new.replies ≡ old.replies) × (new.commands ≡ old.commands) × (new.lists ≡ old.lists)
    same_replies rests = resting step rests turned.stepped where
      resting : (s : Step) → IsResting s → Stepped loads s old new (standing_of device before (i + 1)) (standing_of device after (i + 1)) →
          (new.replies ≡ old.replies) × (new.commands ≡ old.commands) × (new.lists ≡ old.lists)
      resting Did rests stepped = absurd rests
      resting (Waits seen) rests stepped =
          same_parts new (told (standing_of device before (i + 1)) old) stepped.same
      resting Ended rests stepped =
          same_parts new old stepped.same
      resting (Stopped why) rests stepped = absurd rests

    pub turn_same_total : IsResting step → total_put loads (set sessions i new) ≡ total_put loads sessions
    turn_same_total rests =
        let same = same_replies rests in
        total_turned (let e = put_same loads new old same.0 same.1 same.2 in ap (λ (l : List Edge). length l) e)

    pub turn_same_left : IsResting step → commands_left (set sessions i new) ≡ commands_left sessions
    turn_same_left rests =
        let same = same_replies rests in
        let replies = ap (λ (l : List Reply). length l) same.0 in
        let commands = ap (λ (l : List Command). length l) same.1 in
        let these : length new.commands - length new.replies ≡ length old.commands - length old.replies = omega (arith, replies, commands) in
        omega (arith, left_turned, these)

    pub turn_quiet : IsResting step → IsQuiet (total_put loads sessions) new
    turn_quiet rests = quiet step rests turned.stepped turned.looked where
      quiet : (s : Step) → IsResting s → Stepped loads s old new (standing_of device before (i + 1)) (standing_of device after (i + 1)) →
          HasLooked (LooksAt before) s old (standing_of device before (i + 1)) → IsQuiet (total_put loads sessions) new
      quiet Did rests stepped looked = absurd rests
      quiet (Waits seen) rests stepped looked =
          let there = total_there sessions before can in
          subst (λ (s : SessionState). IsQuiet (total_put loads sessions) s) (sym stepped.same)
          (inr (looked.0, looked.1, omega (arith, there, looked.2.0, looked.2.1)))
      quiet Ended rests stepped looked = inl (subst (λ (s : SessionState). HasDone s) (sym stepped.same) stepped.all)
      quiet (Stopped why) rests stepped looked = absurd rests

  -- sessions in a round: before the first turn
  pub round_none : (sessions : List SessionState) (store : PlainState D) → CanAllTurn device loads sessions store →
      InRound device loads sessions store (at_turn sessions store 0 false)
  round_none sessions store can = record {
    can = can;
    onward = go_same sessions store;
    no_more = omega arith;
    fewer = λ is. absurd (false≢true is);
    quiet = λ none k session within. absurd (omega (arith, within));
  }

  -- and after one more turn
  module _ (olds : List SessionState) (begun : PlainState D) (now : Turns D) (step : Step) (old new : SessionState) (after : PlainState D)
      (here : slice_get now.sessions now.turns ≡ Some old)
      (turned : HasTurned device loads step (in_turn (now.turns + 1) old now.store) (in_turn (now.turns + 1) new after))
      (round : InRound device loads olds begun now) where
    round_onward : GoOnOver olds (set now.sessions now.turns new) begun after
    round_onward = go_further olds now.sessions (set now.sessions now.turns new) begun now.store after round.onward
        (turn_onward now.sessions now.turns old new here step now.store after round.can turned)

    pub round_stopped : (why : Stop) → step ≡ Stopped why → HaveStopped device loads olds (set now.sessions now.turns new) begun after
    round_stopped why is = record {
      halted = (turn_stopped now.sessions now.turns old new here step now.store after round.can turned why is).halted;
      onward = round_onward;
    }

    pub round_did : step ≡ Did → InRound device loads olds begun (at_turn (set now.sessions now.turns new) after (now.turns + 1) true)
    round_did is =
        let fewer = turn_fewer now.sessions now.turns old new here step now.store after round.can turned is in
        record {
          can = turn_can now.sessions now.turns old new here step now.store after round.can turned (subst (λ (s : Step). IsGoing s) (sym is) tt);
          onward = round_onward;
          no_more = omega (arith, fewer, round.no_more);
          fewer = λ one. omega (arith, fewer, round.no_more);
          quiet = λ none. absurd (false≢true (sym none));
        }

    pub round_rested : IsResting step → InRound device loads olds begun (at_turn (set now.sessions now.turns new) after (now.turns + 1) now.answered)
    round_rested rests =
        let same = turn_same_left now.sessions now.turns old new here step now.store after round.can turned rests in
        let total = turn_same_total now.sessions now.turns old new here step now.store after round.can turned rests in
        record {
          can = turn_can now.sessions now.turns old new here step now.store after round.can turned (goes step rests);
          onward = round_onward;
          no_more = omega (arith, same, round.no_more);
          fewer = λ one. (let fewer = round.fewer one in omega (arith, same, fewer));
          quiet = λ none k session within there. subst (λ (n : ℕ). IsQuiet n session) (sym total)
              (elim (get_set now.sessions now.turns k new session there) [
                | inl h ↦
                    subst (λ (s : SessionState). IsQuiet (total_put loads now.sessions) s) (sym h.1)
                    (turn_quiet now.sessions now.turns old new here step now.store after round.can turned rests)
                | inr h ↦ round.quiet none k session (apart_below k now.turns within h.0) h.1
              ]);
        }
      where
        goes : (s : Step) → IsResting s → IsGoing s
        goes Did rests = absurd rests
        goes (Waits seen) rests = tt
        goes Ended rests = tt
        goes (Stopped why) rests = absurd rests

        apart_below : (k n : ℕ) → k < n + 1 → k ≢ n → k < n
        apart_below k n within apart = elim (leb_tells (suc k) n) [
          | inl h ↦ omega (arith, h.1)
          | inr h ↦ absurd (apart (omega (arith, h.1, within)))
        ]

  -- after the last turn: some command was answered, or all have come to their ends
  pub round_goes : (olds news : List SessionState) (old new : PlainState D) (answered : Bool) (turns : ℕ) →
      InRound device loads olds old (at_turn news new turns answered) → answered ≡ true → HaveGone device loads olds news old new
  round_goes olds news old new answered turns round is = record { can = round.can; onward = round.onward; fewer = round.fewer is }

  pub round_last : (olds news : List SessionState) (old new : PlainState D) (answered : Bool) (turns : ℕ) → WaitsForCertain loads olds →
      InRound device loads olds old (at_turn news new turns answered) → answered ≡ false → length olds ≤ turns → HaveEnded device loads olds news old new
  round_last olds news old new answered turns waits round is all =
      let same : length news ≡ length olds = aims_long news olds round.onward.aims in
      record {
        can = round.can;
        onward = round.onward;
        all = all_there HasDone news (round_done news new round.can (waits_on loads olds news round.onward.aims waits)
            (λ k session within there. round.quiet is k session (omega (arith, within, all, same)) there));
      }
