-- The loads of the log's length and of the fronts keep the rule, and what they tell.
use Rattle.std.proofs.Common.{◌≡◌, ℕ, ◌<◌, ◌≤◌, true, false, List, [], length, take, set, sym, refl, ap, ⊎_elim, arith, subst}
use Rattle.std.specs.Prelude.{All, Contains, Some, slice_get, slice_index, max, Option as Maybe}
use Rattle.std.proofs.lemmas.Bool.{both_ways, cases_lt}
use Rattle.std.proofs.lemmas.List.{length-take-le}
use Rattle.std.proofs.lemmas.List.Elements.{All-weaker, All-contains, All-contains_itself}
use Rattle.atomic_table.specs.Table.{State, Step, Allows, Me}
use Rattle.go_word.specs.declared.edge.Edge.{Edge}
use Rattle.go_word.specs.declared.pin.Pin.{Pin}
use Rattle.go_word.specs.Word.{is_matched}
use Rattle.go_core.specs.Acts.{CanReadAhead}
use Rattle.go_core.specs.Frame.{Frame, place, slot, head_in, archived_in, durable_in, released}
use Rattle.go_core.specs.View.{knowing_head, knowing_archived, knowing_durable, ending, read_ahead}
use Rattle.go_core.specs.Rule.{IsWritten, IsSound}
use Rattle.go_core.specs.Parts.{IsShardPlace, IsPinnedBy}
use Rattle.go_core.proofs.Moved.{within_log}
use Rattle.go_core.proofs.Claims.{All-lookup}
use Rattle.go_core.proofs.Loads.{head_loaded, archived_loaded}
use Rattle.go_core.proofs.Durable.{durable_loaded, durable_ended, tentative_loaded}
use Rattle.go_core.proofs.Copied.{copied_written, seen_matched}
use Rattle.go_rule.specs.declared.layout.Key.{Key}
use Rattle.go_rule.specs.declared.view.Note.{Note}
use Rattle.go_rule.specs.declared.view.PlacedPin.{PlacedPin}
use Rattle.go_rule.specs.declared.view.SeatView.{SeatView}
use Rattle.go_rule.specs.Meaning.{Meaning, IsLasting}
use Rattle.go_rule.specs.Views.{frame_of, with_head, with_archived, with_durable, with_ending, with_ahead}
use Rattle.go_rule.specs.Rule.{IsBelow, cores, pins_at, IsRuled}
use Rattle.go_rule.specs.Steps.{SeesOn, FrontIs, IsRead, LoadsHead, LoadsArchived, LoadsDurable, LoadsEnding, LoadsAhead, CanEnd, TellsLog}
use Rattle.go_rule.proofs.Lists.{lookup_take, get_there, all_places}
use Rattle.go_rule.proofs.Beside.{IsRuledSeat, core_there, Beside, allowed}
use Rattle.go_rule.proofs.Alone.{whole_log}
use Rattle.go_rule.proofs.LogTold.{tells_log}
use Rattle.go_rule.proofs.Renewals.{sees_on, read_beside, renewed_sees, old_kept, told_now, seen_window, numbers_to, log_small}

module _ {P : Type 0} (m : Meaning P) (laws : IsLasting m) (key : Key P) where
  module _ (s : State (Maybe P) (SeatView P)) (log : List Edge) (parts : List P) (i : ℕ) (d : SeatView P) (ruled : IsRuledSeat m key s log parts i d) where
    -- a front that is read, at or past what is released and within the log
    front_is : (known n : ℕ) → known ≤ n → released s.words ≤ n → n ≤ length log → FrontIs (frame_of key) known d n
    front_is known n low above to =
        let passed = (told_now m laws key s log parts i d ruled).passed in
        let window = seen_window m laws key s log parts i d ruled in
        record {
          known_to = low;
          passed_to = omega arith;
          window = omega arith;
          small = let few = log_small m laws key s log parts i d ruled in omega arith;
          whole = λ whole. let all = whole_log m laws key s log parts ruled.by i d ruled.there whole in omega arith;
        }

    -- and what the seat sees by it
    front_seen : (known n : ℕ) → known ≤ n → released s.words ≤ n → n ≤ length log
        → SeesOn d.told.seen (take (max d.core.seen n) log) d.core.seen n × FrontIs (frame_of key) known d n
    front_seen known n low above to = (
      sees_on log d.told.seen d.core.seen n (told_now m laws key s log parts i d ruled).seen_is (numbers_to m laws key s log parts i d ruled).1 to,
      front_is known n low above to,
    )

    -- a load of the archived front, and one of the durable front
    archived_beside : Beside m laws key s log parts ruled.by i d ruled.there
        (with_archived (archived_in s.words) (take (max d.core.seen (archived_in s.words)) log) d) (set s.words 1 (slice_index s.words 1)) []
    archived_beside =
        let core = knowing_archived (archived_in s.words) d.core in
        read_beside m laws key s log parts i d ruled 1 core (record d.told { seen = take core.seen log })
        (renewed_sees m laws key s log parts i d ruled core ruled.live
        (archived_loaded (frame_of key) log s.words (cores s.views) i d.core (core_there m laws key s log parts ruled.by i d ruled.there) ruled.live
        ruled.by.tied)
        (λ p. omega arith) (λ role. (role, omega arith)) (λ place part at_place shard cut. ruled.by.held.kept place part at_place shard))

    durable_beside : Beside m laws key s log parts ruled.by i d ruled.there
        (with_durable (durable_in s.words) (take (max d.core.seen (durable_in s.words)) log) d) (set s.words 2 (slice_index s.words 2)) []
    durable_beside =
        let core = knowing_durable (durable_in s.words) d.core in
        read_beside m laws key s log parts i d ruled 2 core (record d.told { seen = take core.seen log })
        (renewed_sees m laws key s log parts i d ruled core ruled.live
        (durable_loaded (frame_of key) log s.words (cores s.views) i d.core (core_there m laws key s log parts ruled.by i d ruled.there) ruled.live
        ruled.by.tied)
        (λ p. omega arith) (λ role. (role, omega arith)) (old_kept m laws key s log parts i d ruled))

    -- no pin of the seat is past the archived front
    pins_to : All (λ (x : PlacedPin). IsShardPlace (frame_of key) x.place → x.pin.front ≤ archived_in s.words) d.stake.pins
    pins_to =
        all_places (λ at (pin : Pin). IsShardPlace (frame_of key) at → pin.front ≤ archived_in s.words) (λ (x : PlacedPin). x.place) (λ (x : PlacedPin). x.pin)
        d.stake.pins
        (λ at.
        All-weaker (Contains (pins_at at d)) (λ (pin : Pin). IsShardPlace (frame_of key) at → pin.front ≤ archived_in s.words)
        (λ pin inside shard.
        let count = ruled.by.held.count in
        let found = get_there parts at (omega arith) in
        let held = (m.state_of found.0).pins in
        let one : IsPinnedBy (pins_at at) (λ z. []) (λ z. false) held d =
        All-lookup (IsPinnedBy (pins_at at) (λ z. []) (λ z. false) held) s.views i d (ruled.by.pinned at found.0 found.1 shard).each ruled.there in
        All-contains (λ (x : Pin). x.front ≤ archived_in s.words) held pin (ruled.by.held.of.shards at found.0 found.1 shard).pins_to
        (All-contains (Contains held) (pins_at at d) pin (one.pinned refl) inside))
        (pins_at at d) (All-contains_itself (pins_at at d)))

    -- nor is the cut of a shard in its hand
    cuts_to : All (λ (x : Note P). IsShardPlace (frame_of key) x.place → (m.state_of x.part).cut ≤ archived_in s.words) d.stake.notes
    cuts_to =
        All-weaker (λ (x : Note P). slice_get parts x.place ≡ Some x.part)
        (λ (x : Note P). IsShardPlace (frame_of key) x.place → (m.state_of x.part).cut ≤ archived_in s.words)
        (λ x at_place shard. (ruled.by.held.of.shards x.place x.part at_place shard).cut_to) d.stake.notes (ruled.by.seats i d ruled.there).noted

    -- the words of its copy, by a front that is at or past what is released and a log that is seen so far
    words_read : (n k : ℕ) → released s.words ≤ n → k ≤ length log → All (IsRead key.layout.ring d.about.vertices (take k log) n) d.core.loads
    words_read n k above within =
        let core = ruled.by.tied.seated i d.core (core_there m laws key s log parts ruled.by i d ruled.there) in
        let about = ap (λ a. a.vertices) ((ruled.by.seats i d ruled.there).about ruled.live) in
        All-weaker (IsSound (frame_of key) log s.words (cores s.views) d.core.marked) (IsRead key.layout.ring d.about.vertices (take k log) n)
        (λ l sound after matched seen.
        ⊎_elim
        (λ late.
        let under : l.at < released s.words = late.1 in
        ⊎_elim (λ (sure : l.sure ≡ true). absurd (both_ways l.sure late.0 sure)) (λ (over : n ≤ l.at). absurd (omega arith)) after)
        (λ tells.
        ⊎_elim
        (λ is.
        let long = length-take-le k log within in
        record {
          edge = is.0;
          there = lookup_take k log l.at is.0 (omega arith) is.1;
          is = is.2;
          below = subst (λ v. IsBelow v is.0) (sym about) (All-lookup (IsBelow key.layout.vertices) log l.at is.0 ruled.by.logged.below is.1);
        })
        (λ ahead. absurd (both_ways (is_matched key.layout.ring l.at l.word) ahead.0 matched)) tells) sound)
        d.core.loads core.reads

  module _ (slots id : ℕ) (me : Me (Maybe P) (SeatView P)) (live : me.0.core.live ≡ true) (step : Step (Maybe P)) where
    pub head_allowed : (f : Frame) → frame_of key ≡ f → Allows (IsRuled m key) slots id me 0 (λ n. n) (LoadsHead f step me)
    head_allowed f picked =
        subst (λ g. Allows (IsRuled m key) slots id me 0 (λ n. n) (LoadsHead g step me)) picked
        (allowed m laws key slots id me live 0 (λ n. n) (LoadsHead (frame_of key) step me)
        (λ s log parts ruled small.
        let d = me.0 in
        let n = head_in s.words in
        let core = core_there m laws key s log parts ruled.by id d ruled.there in
        let to = numbers_to m laws key s log parts id d ruled in
        let archived = ruled.by.tied.ringed.archived.to in
        let durable = ruled.by.tied.ringed.durable.to in
        let head = ruled.by.tied.ringed.shape.head in
        let known = to.0 in
        let seen = to.1 in
        let one = to.2 in
        let two = to.3 in (
          with_head n d,
          [],
          read_beside m laws key s log parts id d ruled 0 (knowing_head n d.core) d.told
              (record {
                lives = live;
                tied = head_loaded (frame_of key) log s.words (cores s.views) id d.core core live ruled.by.tied;
                less = λ p. omega arith;
                goes_on = λ role. (role, omega arith);
                told = told_now m laws key s log parts id d ruled;
                kept = old_kept m laws key s log parts id d ruled;
              }),
          record {
            becomes = refl;
            known = omega arith;
            seen = omega arith;
            archived = omega arith;
            durable = omega arith;
            small = let few = log_small m laws key s log parts id d ruled in omega arith;
            whole = λ whole. let all = whole_log m laws key s log parts ruled.by id d ruled.there whole in omega arith;
            tells = subst (λ k. TellsLog (frame_of key) k d) (sym head) (tells_log m laws key s log parts id d ruled);
          },
        )))

    pub archived_allowed : (f : Frame) → frame_of key ≡ f → Allows (IsRuled m key) slots id me 1 (λ n. n) (LoadsArchived m.state_of f step me)
    archived_allowed f picked =
        subst (λ g. Allows (IsRuled m key) slots id me 1 (λ n. n) (LoadsArchived m.state_of g step me)) picked
        (allowed m laws key slots id me live 1 (λ n. n) (LoadsArchived m.state_of (frame_of key) step me)
        (λ s log parts ruled small.
        let d = me.0 in
        let n = archived_in s.words in
        let known = (numbers_to m laws key s log parts id d ruled).2 in
        let told = front_seen s log parts id d ruled d.core.archived n known (omega arith) ruled.by.tied.ringed.archived.to in (
          with_archived n (take (max d.core.seen n) log) d,
          [],
          archived_beside s log parts id d ruled,
          record {
            seen = take (max d.core.seen n) log;
            becomes = refl;
            sees = told.0;
            front = told.1;
            pins = pins_to s log parts id d ruled;
            cuts = cuts_to s log parts id d ruled;
          },
        )))

    pub durable_allowed : (f : Frame) → frame_of key ≡ f → Allows (IsRuled m key) slots id me 2 (λ n. n) (LoadsDurable f step me)
    durable_allowed f picked =
        subst (λ g. Allows (IsRuled m key) slots id me 2 (λ n. n) (LoadsDurable g step me)) picked
        (allowed m laws key slots id me live 2 (λ n. n) (LoadsDurable (frame_of key) step me)
        (λ s log parts ruled small.
        let d = me.0 in
        let n = durable_in s.words in
        let seen = take (max d.core.seen n) log in
        let known = (numbers_to m laws key s log parts id d ruled).3 in
        let told = front_seen s log parts id d ruled d.core.durable n known (omega arith) ruled.by.tied.ringed.durable.to in
        (with_durable n seen d, [], durable_beside s log parts id d ruled, record { seen = seen; becomes = refl; sees = told.0; front = told.1 })))

    pub ending_allowed : (end : ℕ) → CanEnd key.layout.ring me.0 end →
        Allows (IsRuled m key) slots id me 2 (λ n. n) (LoadsEnding (frame_of key) end step me)
    ending_allowed end can =
        allowed m laws key slots id me live 2 (λ n. n) (LoadsEnding (frame_of key) end step me)
        (λ s log parts ruled small.
        let d = me.0 in
        let n = durable_in s.words in
        let k = max (max d.core.seen n) end in
        let core = core_there m laws key s log parts ruled.by id d ruled.there in
        let to = numbers_to m laws key s log parts id d ruled in
        let written : (p : ℕ) → p < end → IsWritten log (cores s.views) p =
        copied_written (frame_of key) log s.words (cores s.views) id d.core core ruled.by.tied end can in
        let last : end ≤ length log = within_log log (cores s.views) end written in
        let up : n ≤ length log = ruled.by.tied.ringed.durable.to in
        let seen : d.core.seen ≤ length log = to.1 in
        let same : max d.core.seen (max n end) ≡ k = omega arith in (
          with_ending n end (take k log) d,
          [],
          read_beside m laws key s log parts id d ruled 2 (ending n end d.core) (record d.told { seen = take k log })
              (renewed_sees m laws key s log parts id d ruled (ending n end d.core) live
              (durable_ended (frame_of key) log s.words (cores s.views) id d.core end core live written ruled.by.tied) (λ p. omega arith)
              (λ role. (role, omega arith)) (old_kept m laws key s log parts id d ruled)),
          record {
            seen = take k log;
            becomes = refl;
            sees = subst (λ j. SeesOn d.told.seen (take j log) d.core.seen (max n end)) same
                (sees_on log d.told.seen d.core.seen (max n end) (told_now m laws key s log parts id d ruled).seen_is seen (omega arith));
            front = front_is s log parts id d ruled d.core.durable n to.3 (omega arith) up;
            words = words_read s log parts id d ruled n k (omega arith) (omega arith);
          },
        ))

    pub ahead_allowed : (p : ℕ) → CanReadAhead key.layout.ring me.0.core p →
        Allows (IsRuled m key) slots id me (place (frame_of key) p) (λ n. n) (LoadsAhead key.layout.ring p step me)
    ahead_allowed p can =
        allowed m laws key slots id me live (place (frame_of key) p) (λ n. n) (LoadsAhead key.layout.ring p step me)
        (λ s log parts ruled small.
        let d = me.0 in
        let k = place (frame_of key) p in
        let word = slot (frame_of key) s.words p in
        let now = released s.words in
        let core = core_there m laws key s log parts ruled.by id d ruled.there in
        let told = told_now m laws key s log parts id d ruled in (
          with_ahead p word now d,
          [],
          read_beside m laws key s log parts id d ruled k (read_ahead p word d.core) (record d.told { passed = now })
              (record {
                lives = live;
                tied = tentative_loaded (frame_of key) log s.words (cores s.views) id d.core p core live can ruled.by.tied;
                less = λ q. omega arith;
                goes_on = λ role. (role, omega arith);
                told = record { seen_is = told.seen_is; heard = told.heard; passed = omega arith; raised = told.raised };
                kept = old_kept m laws key s log parts id d ruled;
              }),
          record {
            released = now;
            becomes = refl;
            passed_to = told.passed;
            gone = λ unmatched seen.
                ⊎_elim (λ (less : p < now). less)
                (λ (from : now ≤ p).
                absurd (both_ways (is_matched key.layout.ring p word) unmatched
                (seen_matched (frame_of key) log s.words (cores s.views) id d.core core ruled.by.tied p seen from))) (cases_lt p now);
          },
        ))
