-- What the calls of a session answer, by how the store is left.
use Rattle.std.proofs.Common.{◌≡◌, ℕ, ◌+◌, ◌<◌, ◌≤◌, true, List}
use Rattle.std.proofs.Common.{length, take, drop, set, get_or, slice_get, Some, refl, ap, arith, sym, subst, ◌∙◌}
use Rattle.std.proofs.Common.{take_all, ◌==◌}
use Rattle.std.specs.Prelude.{All, min}
use Rattle.std.proofs.lemmas.List.{length-take-le, take-take}
use Rattle.std.proofs.lemmas.Option.{get_or_from_slice_get}
use Rattle.go_word.specs.declared.edge.Edge.{Edge}
use Rattle.go_api.specs.Standing.{Standing, IsSound}
use Rattle.go_api.specs.Calls.{IsFront, IsPlacedAt, IsViewed}
use Rattle.go_api.specs.Calls.{IsStarted, IsBusy, HasReached, HasNotReached}
use Rattle.go_api.specs.Calls.{IsSynced, IsUpdated, IsListAt, IsReadStopped, Holds}
use Rattle.go_word.specs.Neighbours.{neighbours}
use Rattle.go_api.specs.declared.place.Place.{Place}
use Rattle.go_api.specs.declared.place.Place.TheVariants.{Free, View, Stream}
use Rattle.go_api.specs.declared.stop.Stop.TheVariants as stops
use Rattle.go_api.proofs.StandingLemmas.{onward_on, sees_self, sees_on, read_self}
use Rattle.go_disk.specs.Device.{Device}
use Rattle.go_durable.specs.Journal.{journal_front}
use Rattle.go_shard.specs.ShardState.{ShardState}
use Rattle.go_plain.specs.Plain.{PlainState, HasSession, standing_of, IsArranged}
use Rattle.go_plain.specs.Plain.{OnlyMoves}
use Rattle.go_plain.specs.Plain.{seen_by, kept_at, IsOnlyFlushed, HasRead}
use Rattle.go_plain.specs.Ring.{RingState}
use Rattle.go_plain.specs.Seats.{seat_at}
use Rattle.go_plain.specs.declared.seat.Seat.{Seat}
use Rattle.go_plain.proofs.ArrangedLemmas.{ring_length}
use Rattle.go_plain.proofs.PlacesLemmas.{view_read, shown_within}
use Rattle.go_plain.proofs.StandingLemmas.{equal_by, store_sound, standing_given, looked, looked_front, placed, moves_see}

module _ {D : Type 0} (device : Device D) where
  -- a view was taken of the whole log
  pub viewed : (store : PlainState D) (number place front : ℕ) → HasSession store number → IsSound (standing_of device store number) →
      front ≡ length store.log →
      IsViewed place front (standing_of device store number) (standing_of device (kept_at store number place (View front)) number)
  viewed store number place front session sound whole =
      let is = placed device store number place (View front) session sound in
      let after = standing_of device (kept_at store number place (View front)) number in
      record { holds = is.0; front_is = subst (λ (n : ℕ). IsFront n (standing_of device store number) after) (sym whole) is.1 }

  -- a stream was started behind the whole log
  pub started : (store : PlainState D) (number place cursor : ℕ) → HasSession store number → IsSound (standing_of device store number) →
      cursor ≡ length store.log →
      IsStarted place cursor (standing_of device store number) (standing_of device (kept_at store number place (Stream cursor)) number)
  started store number place cursor session sound whole =
      let is = placed device store number place (Stream cursor) session sound in
      let after = standing_of device (kept_at store number place (Stream cursor)) number in
      record { holds = is.0; front_is = subst (λ (n : ℕ). IsFront n (standing_of device store number) after) (sym whole) is.1 }

  -- the log has come to a front
  pub reached : (store : PlainState D) (number asked : ℕ) → HasSession store number → IsSound (standing_of device store number) → asked ≤ length store.log →
      HasReached asked asked (standing_of device store number) (standing_of device (seen_by store number) number)
  reached store number asked session sound within =
      let seat = seat_at store.seats number in
      let later : Seat = record seat { seen = length store.log } in
      record {
        sees = looked device store number session sound;
        front_is = refl;
        floor = standing_given device store number later session (λ s. asked ≤ s.log.floor) within;
      }

  -- or it hasn't
  pub not_reached : (store : PlainState D) (number asked seen : ℕ) → HasSession store number → IsSound (standing_of device store number) →
      seen ≡ length store.log → seen < asked → HasNotReached asked seen (standing_of device store number) (standing_of device (seen_by store number) number)
  not_reached store number asked seen session sound whole below =
      let seat = seat_at store.seats number in
      let later : Seat = record seat { seen = length store.log } in
      record {
        sees = looked device store number session sound;
        seen_is = standing_given device store number later session (λ s. seen ≡ length s.log.seen)
            (omega (arith, whole, length-take-le (length store.log) store.log (omega arith)));
        below = below;
      }

  -- a front for what a store is after entries were moved out of its ring was one before
  front_before : (old mid : PlainState D) (number front : ℕ) (after : Standing) → OnlyMoves old mid → IsFront front (standing_of device mid number) after →
      IsFront front (standing_of device old number) after
  front_before old mid number front after only is =
      let sees = moves_see device old mid number only in
      record {
        not_older = omega (arith, is.not_older, sees.kept.onward.floor_later);
        above_own = subst (All (λ p. p < front)) sees.kept.same_own is.above_own;
        is_end = is.is_end;
        floor = is.floor;
      }

  -- all is durable
  pub synced : (old mid : PlainState D) (number front : ℕ) → OnlyMoves old mid → length mid.log ≤ journal_front mid.journal → HasSession mid number →
      IsSound (standing_of device mid number) → front ≡ length mid.log →
      IsSynced front (standing_of device old number) (standing_of device (seen_by mid number) number)
  synced old mid number front only durable session sound whole =
      let after = standing_of device (seen_by mid number) number in
      record {
        sees =
            sees_on (standing_of device old number) (standing_of device mid number) after (moves_see device old mid number only)
            (looked device mid number session sound);
        front_is = front_before old mid number front after only
            (subst (λ (n : ℕ). IsFront n (standing_of device mid number) after) (sym whole) (looked_front device mid number session sound));
        durable = omega (arith, whole, durable);
      }

  -- shards that were compacted
  pub cuts_move : (old new : PlainState D) → new ≡ record old { cuts = new.cuts } → OnlyMoves old new
  cuts_move old new same =
      let journal : new.journal ≡ old.journal = ap (λ (s : PlainState D). s.journal) same in
      let moved : new.moved ≡ old.moved = ap (λ (s : PlainState D). s.moved) same in
      record {
        same = same ∙ rw (journal, moved) refl;
        no_less = rw journal (omega arith);
        met_stays = rw journal (λ met. met);
      }

  -- an offer that finds the ring full
  pub busy : (store : PlainState D) (ring : RingState) (shards : List ShardState) (number head : ℕ) → IsArranged store ring shards → HasSession store number →
      (length ring.entries == ring.room) ≡ true → head ≡ length store.log →
      IsBusy head store.moved (standing_of device store number) (standing_of device store number)
  busy store ring shards number head is session full whole =
      let sound = store_sound device store ring shards is number session in
      let long = ring_length store ring shards is in
      let all : length ring.entries ≡ ring.room = equal_by (length ring.entries) ring.room full in
      record {
        sees = sees_self (standing_of device store number);
        full = omega (arith, all, long, whole, is.pending.room);
        old_released = is.pending.old_moved;
        above_own = λ k d below. omega (arith, sound.owns.known k d below, whole);
        known = omega (arith, whole);
      }

  -- a log file that was read or appended to is all that changed
  pub flushed_moves : (old new : PlainState D) → IsOnlyFlushed old new → OnlyMoves old new
  flushed_moves old new only =
      let moved : new.moved ≡ old.moved = ap (λ (s : PlainState D). s.moved) only.same in
      let cuts : new.cuts ≡ old.cuts = ap (λ (s : PlainState D). s.cuts) only.same in
      record { same = only.same ∙ rw (moved, cuts) refl; no_less = only.no_less; met_stays = only.met_stays }

  -- what stands at a place then stands there as seen from before
  placed_before : (old mid : PlainState D) (number place : ℕ) (held : Place) (after : Standing) → OnlyMoves old mid →
      IsPlacedAt place held (standing_of device mid number) after → IsPlacedAt place held (standing_of device old number) after
  placed_before old mid number place held after only is =
      let sees = moves_see device old mid number only in
      record {
        onward = onward_on (standing_of device old number) (standing_of device mid number) after sees.kept.onward is.onward;
        puts = record {
          same_own = is.puts.same_own ∙ sees.kept.same_own;
          same_edges = is.puts.same_edges ∙ sees.kept.same_edges;
          same_quota = is.puts.same_quota ∙ sees.quota;
        };
        placed = is.placed ∙ ap (λ (l : List Place). set l place held) sees.kept.same_places;
      }

  -- a stream gave what comes next
  pub updated : (old mid : PlainState D) (number place most cursor to : ℕ) (list : List Edge) → OnlyMoves old mid → HasSession mid number →
      IsSound (standing_of device mid number) → Holds place (Stream cursor) (standing_of device old number) → to ≡ min (cursor + most) (length mid.log) →
      HasRead device mid cursor to list →
      IsUpdated place most list (record { from = cursor; to = to }) (standing_of device old number)
      (standing_of device (kept_at mid number place (Stream to)) number)
  updated old mid number place most cursor to list only session sound held ends read =
      let after = standing_of device (kept_at mid number place (Stream to)) number in
      let seat = seat_at mid.seats number in
      let later : Seat = record seat { seen = length mid.log; places = set seat.places place (Stream to) } in
      let is = placed device mid number place (Stream to) session sound in
      record {
        front = length mid.log;
        from_cursor = held;
        front_is = front_before old mid number (length mid.log) after only is.1;
        ends = ends;
        holds = placed_before old mid number place (Stream to) after only is.0;
        so_many = read.so_many;
        shown = λ told. read.shown told ∙ standing_given device mid number later session (λ s. drop cursor (take to mid.log) ≡ drop cursor (take to s.log.seen))
            (ap (λ (l : List Edge). drop cursor (take to l)) (sym (take_all (length mid.log) mid.log (omega arith))));
      }

  -- the neighbours in a view were listed
  pub listed : (store : PlainState D) (number place vertex front : ℕ) (list : List ℕ) → IsSound (standing_of device store number) →
      get_or (seat_at store.seats number).places place Free ≡ View front → list ≡ neighbours (take front store.log) vertex →
      IsListAt place vertex (standing_of device store number) list
  listed store number place vertex front list sound held is = λ there at.
      let seat = seat_at store.seats number in
      let same = view_read seat.places place front there held at in
      let within = shown_within seat.places place front seat.seen sound.count sound.shown held in
      is ∙ ap (λ (l : List Edge). neighbours l vertex) (sym (take-take front seat.seen store.log within)
      ∙ ap (λ (n : ℕ). take n (take seat.seen store.log)) same)

  -- the same where a view stands at the place
  pub listed_at : (store : PlainState D) (number place vertex front : ℕ) (list : List ℕ) → IsSound (standing_of device store number) →
      slice_get (seat_at store.seats number).places place ≡ Some (View front) → list ≡ neighbours (take front store.log) vertex →
      IsListAt place vertex (standing_of device store number) list
  listed_at store number place vertex front list sound held is =
      listed store number place vertex front list sound (get_or_from_slice_get (seat_at store.seats number).places place (View front) Free held) is

  -- a stop for want of memory
  pub memory_stops : (store : PlainState D) (number : ℕ) → IsReadStopped stops.Memory (standing_of device store number) (standing_of device store number)
  memory_stops store number = record {
    read = read_self (standing_of device store number);
    met = λ disk. absurd (let h : stops.Memory ≡ stops.Disk = disk in cc);
  }
