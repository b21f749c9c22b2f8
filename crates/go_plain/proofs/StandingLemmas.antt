-- Lemmas on what the handle of a session stands for, before and after its calls.
use Rattle.std.proofs.Common.{◌≡◌, ℕ, ◌+◌, ◌-◌, ◌<◌, ◌≤◌, ◌^◌, true, List, [], ◌∷◌, ◌++◌}
use Rattle.std.proofs.Common.{length, take, drop, set, refl, ap, arith, sym, subst, ◌∙◌, inr}
use Rattle.std.proofs.Common.{length-append, take_all, inl, false, ◌==◌}
use Rattle.std.proofs.Math.ListN.{length-set}
use Rattle.std.specs.Prelude.{All}
use Rattle.std.proofs.lemmas.Bool.Decides.{eqb_tells}
use Rattle.std.proofs.lemmas.List.{length-drop, length-take, length-take-le, take-append-le, take-take}
use Rattle.std.proofs.lemmas.List.Elements.{All-push, All-take}
use Rattle.go_word.specs.declared.edge.Edge.{Edge}
use Rattle.go_word.specs.Log.{IsWithin}
use Rattle.go_api.specs.Standing.{Standing, Onward, IsSound, ShowsUpTo}
use Rattle.go_api.specs.Calls.{IsFront, IsPut, IsPutStopped, IsStopped, IsPlacedAt}
use Rattle.go_api.specs.Calls.{OnlySees}
use Rattle.go_api.specs.declared.place.Place.{Place}
use Rattle.go_api.specs.declared.place.Place.TheVariants.{Free, View}
use Rattle.go_api.specs.declared.stop.Stop.{Stop}
use Rattle.go_api.specs.declared.stop.Stop.TheVariants as stops
use Rattle.go_api.proofs.StandingLemmas.{onward_self}
use Rattle.go_disk.specs.Device.{Device}
use Rattle.go_durable.specs.Journal.{is_spent}
use Rattle.go_plain.specs.Owners.{owned, put_by, HasOwners}
use Rattle.go_shard.specs.ShardState.{ShardState}
use Rattle.go_plain.specs.Plain.{PlainState, HasSession, IsStore, StaysStore, standing_as, standing_of, IsArranged}
use Rattle.go_plain.specs.Plain.{IsPlain, OnlyMoves, MaySit, pushed}
use Rattle.go_plain.specs.Plain.{seen_by, kept_at}
use Rattle.go_plain.specs.Ring.{RingState}
use Rattle.go_plain.specs.Seats.{seat_at, seats_with, IsSeated}
use Rattle.go_plain.specs.declared.seat.Seat.{Seat}
use Rattle.go_plain.proofs.OwnersLemmas.{owned-append, put_by-append, owned_one, put_by_one, owned_rises, owned_below, length-owned}
use Rattle.go_plain.proofs.PastLemmas.{push_behind}
use Rattle.go_plain.proofs.PlacesLemmas.{shows_longer, shown_set, kept_view}
use Rattle.go_plain.proofs.SeatsLemmas.{seat_given}
use Rattle.go_plain.proofs.StoreLemmas.{tells_risen}

-- a later view of a log begins with what an earlier one saw of it
sees_later : (log : List Edge) (seen later : ℕ) → seen ≤ later → later ≤ length log → take (length (take seen log)) (take later log) ≡ take seen log
sees_later log seen later le within =
    ap (λ (n : ℕ). take n (take later log)) (length-take-le seen log (omega (arith, le, within))) ∙ take-take seen later log le

-- numbers that a test finds equal
pub equal_by : (n m : ℕ) → (n == m) ≡ true → n ≡ m
equal_by n m is = elim (eqb_tells n m) [
  | inl h ↦ h.1
  | inr h ↦ absurd (let g : true ≡ false = sym is ∙ h.0 in cc)
]

module _ {D : Type 0} (device : Device D) where
  -- what the handle of a session that is seated stands for is sound
  pub sound_at : (store : PlainState D) (number : ℕ) (seat : Seat) → IsSeated store.origin.first (length store.log) seat →
      HasOwners (length store.seats) store.origin.first store.log store.owners → length store.log < 2 ^ 32 →
      All (IsWithin store.origin.vertices) store.log → IsSound (standing_as device store number seat)
  sound_at store number seat seated owners short ids =
      let long : length (take seat.seen store.log) ≡ seat.seen = length-take-le seat.seen store.log seated.to in
      record {
        sees = record {
          old_seen = seated.from;
          floor_seen = omega (arith, long);
          seen_known = omega (arith, long, seated.to);
          short = omega (arith, long, seated.to, short);
          ids = All-take (IsWithin store.origin.vertices) seat.seen store.log ids;
        };
        owns = record {
          rises = owned_rises store.origin.first number store.owners;
          known = owned_below store.origin.first number (length store.log) store.owners (omega (arith, owners.each));
          put = length-owned store.origin.first number store.owners (drop store.origin.first store.log)
              (omega (arith, owners.each, length-drop store.origin.first store.log));
        };
        count = seated.count;
        shown = seated.shown;
      }

  -- the handle of each session of a store is sound
  pub store_sound : (store : PlainState D) (ring : RingState) (shards : List ShardState) → IsArranged store ring shards → (number : ℕ) →
      HasSession store number →
      IsSound (standing_of device store number)
  store_sound store ring shards is number session =
      sound_at store number (seat_at store.seats number)
      (is.seats.seated (number - 1) _ (omega (arith, session.from, session.to))) is.seats.owners (omega (arith, is.fits.room)) is.fits.ids

  -- what holds of every store, by how its parts keep its log
  pub plain_store : (store : PlainState D) (ring : RingState) (shards : List ShardState) → IsPlain device store ring shards → IsStore device store
  plain_store store ring shards is = record {
    sound = store_sound store ring shards is.arranged;
    owners = is.arranged.seats.owners;
    risen = tells_risen device store ring shards is;
  }

  pub stays_store : (old new : PlainState D) (ring : RingState) (shards : List ShardState) → length new.seats ≡ length old.seats →
      IsPlain device new ring shards → StaysStore device old new
  stays_store old new ring shards long is = record { is_store = plain_store new ring shards is; sessions = long }

  -- a session that there was is one still
  pub still_session : (old new : PlainState D) (number : ℕ) → length new.seats ≡ length old.seats → HasSession old number → HasSession new number
  still_session old new number long session = record { from = session.from; to = omega (arith, session.to, long) }

  pub still_sound : (old new : PlainState D) (number : ℕ) → StaysStore device old new → HasSession old number → IsSound (standing_of device new number)
  still_sound old new number stays session = stays.is_store.sound number (still_session old new number stays.sessions session)

  -- over some calls, and then some more
  pub stays_on : (one two three : PlainState D) → StaysStore device one two → StaysStore device two three → StaysStore device one three
  stays_on one two three first later = record { is_store = later.is_store; sessions = later.sessions ∙ first.sessions }

  -- what a session's handle stands for, once it is seated otherwise
  pub standing_given : (store : PlainState D) (number : ℕ) (seat : Seat) → HasSession store number → (P : Standing → Type 0) →
      P (standing_as device store number seat) → P (standing_of device (record store { seats = seats_with store.seats number seat }) number)
  standing_given store number seat session P holds =
      subst (λ (s : Seat). P (standing_as device store number s)) (sym (seat_given store.seats number seat session)) holds

  -- a session sees the whole log
  seeing : (store : PlainState D) (number : ℕ) (seat later : Seat) → seat.seen ≤ length store.log → later.seen ≡ length store.log →
      Onward (standing_as device store number seat) (standing_as device store number later)
  seeing store number seat later within whole =
      let long : length (take seat.seen store.log) ≡ seat.seen = length-take-le seat.seen store.log within in
      record {
        same_terms = refl;
        seen_more = sees_later store.log seat.seen later.seen (omega (arith, within, whole)) (omega (arith, whole));
        seen_longer = omega (arith, long, within, whole, length-take-le later.seen store.log (omega (arith, whole)));
        floor_later = omega (arith, within, whole);
        known_later = omega arith;
        durable_later = omega arith;
        met_stays = λ met. met;
      }

  -- the length of the log is a front that it may be shown
  whole_front : (store : PlainState D) (number front : ℕ) (seat later : Seat) → IsSound (standing_as device store number seat) → seat.seen ≤ length store.log →
      later.seen ≡ length store.log → front ≡ length store.log → IsFront front (standing_as device store number seat) (standing_as device store number later)
  whole_front store number front seat later sound within whole is = record {
    not_older = omega (arith, within, is);
    above_own = λ k d below. omega (arith, sound.owns.known k d below, is);
    is_end = omega (arith, is, whole, length-take-le later.seen store.log (omega (arith, whole)));
    floor = omega (arith, is, whole);
  }

  -- what a session saw is within the log
  pub sees_within : (store : PlainState D) (number : ℕ) → IsSound (standing_of device store number) → (seat_at store.seats number).seen ≤ length store.log
  sees_within store number sound =
      let seen = (seat_at store.seats number).seen in
      omega (arith, sound.sees.floor_seen, length-take seen store.log)

  -- so a session whose handle is sound is seated
  seated_by : (store : PlainState D) (number : ℕ) → IsSound (standing_of device store number) →
      IsSeated store.origin.first (length store.log) (seat_at store.seats number)
  seated_by store number sound = record {
    from = sound.sees.old_seen;
    to = sees_within store number sound;
    count = sound.count;
    shown = sound.shown;
  }

  -- it may sit seeing the whole log
  pub may_see : (store : PlainState D) (number : ℕ) → IsSound (standing_of device store number) →
      MaySit store (seat_at store.seats number) (record (seat_at store.seats number) { seen = length store.log })
  may_see store number sound =
      let seated = seated_by store number sound in
      record {
        quota = omega arith;
        seated = record {
          from = omega (arith, seated.from, seated.to);
          to = omega arith;
          count = seated.count;
          shown = λ k d below. shows_longer _ (length store.log) _ seated.to (seated.shown k d below);
        };
        views = λ n there. inr there;
      }

  -- with something at a place too that goes no further, and is no view of less
  pub may_keep : (store : PlainState D) (number place : ℕ) (held : Place) → IsSound (standing_of device store number) → ShowsUpTo (length store.log) held →
      ((n : ℕ) → held ≡ View n → length store.log ≡ n) →
      MaySit store (seat_at store.seats number) (record (seat_at store.seats number) {
        seen = length store.log;
        places = set (seat_at store.seats number).places place held;
      })
  may_keep store number place held sound shows whole =
      let seat = seat_at store.seats number in
      let seated = seated_by store number sound in
      record {
        quota = omega arith;
        seated = record {
          from = omega (arith, seated.from, seated.to);
          to = omega arith;
          count = length-set seat.places place held ∙ seated.count;
          shown = shown_set (length store.log) seat.seen seat.places place held seated.to shows seated.shown;
        };
        views = λ n there. kept_view seat.places place held (length store.log) whole n there;
      }

  -- with a place freed
  pub may_free : (store : PlainState D) (number place : ℕ) → IsSound (standing_of device store number) →
      MaySit store (seat_at store.seats number) (record (seat_at store.seats number) { places = set (seat_at store.seats number).places place Free })
  may_free store number place sound =
      let seat = seat_at store.seats number in
      let seated = seated_by store number sound in
      record {
        quota = omega arith;
        seated = record {
          from = seated.from;
          to = seated.to;
          count = length-set seat.places place Free ∙ seated.count;
          shown = shown_set seat.seen seat.seen seat.places place Free (omega arith) tt seated.shown;
        };
        views = λ n there. kept_view seat.places place Free (length store.log) (λ m is. absurd (let h : Free ≡ View m = is in cc)) n there;
      }

  -- a session looked at the whole log
  pub looked : (store : PlainState D) (number : ℕ) → HasSession store number → IsSound (standing_of device store number) →
      OnlySees (standing_of device store number)
      (standing_of device (seen_by store number) number)
  looked store number session sound =
      let within = sees_within store number sound in
      let seat : Seat = seat_at store.seats number in
      let later : Seat = record seat { seen = length store.log } in
      standing_given store number later session (λ s. OnlySees (standing_as device store number seat) s) (record {
        kept = record { onward = seeing store number seat later within refl; same_own = refl; same_edges = refl; same_places = refl };
        quota = refl;
      })

  -- and the log's length is then a front for it
  pub looked_front : (store : PlainState D) (number : ℕ) → HasSession store number → IsSound (standing_of device store number) →
      IsFront (length store.log) (standing_of device store number)
      (standing_of device (seen_by store number) number)
  looked_front store number session sound =
      let within = sees_within store number sound in
      let seat : Seat = seat_at store.seats number in
      let later : Seat = record seat { seen = length store.log } in
      standing_given store number later session (λ s. IsFront (length store.log) (standing_as device store number seat) s)
      (whole_front store number (length store.log) seat later sound within refl refl)

  -- something stands at a place of a session that saw the whole log, and the log's length is a front for it
  pub placed : (store : PlainState D) (number place : ℕ) (held : Place) → HasSession store number → IsSound (standing_of device store number) →
      IsPlacedAt place held (standing_of device store number) (standing_of device (kept_at store number place held) number)
      × IsFront (length store.log) (standing_of device store number) (standing_of device (kept_at store number place held) number)
  placed store number place held session sound =
      let within = sees_within store number sound in
      let seat : Seat = seat_at store.seats number in
      let later : Seat = record seat { seen = length store.log; places = set seat.places place held } in
      standing_given store number later session (λ s. IsPlacedAt place held (standing_as device store number seat) s
      × IsFront (length store.log) (standing_as device store number seat) s) (
        record {
          onward = seeing store number seat later within refl;
          puts = record { same_own = refl; same_edges = refl; same_quota = refl };
          placed = refl;
        },
        whole_front store number (length store.log) seat later sound within refl refl,
      )

  -- something stands at a place of a session that saw no more
  pub freed : (store : PlainState D) (number place : ℕ) (held : Place) → HasSession store number →
      IsPlacedAt place held (standing_of device store number) (standing_of device (record store {
        seats = seats_with store.seats number (record (seat_at store.seats number) { places = set (seat_at store.seats number).places place held });
      }) number)
  freed store number place held session =
      let seat : Seat = seat_at store.seats number in
      let later : Seat = record seat { places = set seat.places place held } in
      let same = onward_self (standing_of device store number) in
      standing_given store number later session (λ s. IsPlacedAt place held (standing_as device store number seat) s) (record {
        onward = record {
          same_terms = refl;
          seen_more = same.seen_more;
          seen_longer = same.seen_longer;
          floor_later = same.floor_later;
          known_later = same.known_later;
          durable_later = same.durable_later;
          met_stays = λ met. met;
        };
        puts = record { same_own = refl; same_edges = refl; same_quota = refl };
        placed = refl;
      })

  -- an entry was put
  pub was_put : (store : PlainState D) (number : ℕ) (e : Edge) → HasSession store number → 1 ≤ (seat_at store.seats number).quota →
      (seat_at store.seats number).seen ≤ length store.log → HasOwners (length store.seats) store.origin.first store.log store.owners →
      IsPut e (length store.log) (standing_of device store number) (standing_of device (pushed store number e) number)
  was_put store number e session some within owners =
      let seat : Seat = seat_at store.seats number in
      let later : Seat = record seat { quota = seat.quota - 1 } in
      let first = store.origin.first in
      let next : PlainState D = record store { log = store.log ++ e ∷ []; owners = store.owners ++ number ∷ [] } in
      let more : length (store.log ++ e ∷ []) ≡ length store.log + 1 = length-append store.log (e ∷ []) in
      let same : take seat.seen (store.log ++ e ∷ []) ≡ take seat.seen store.log = take-append-le seat.seen store.log (e ∷ []) within in
      let own : owned first number (store.owners ++ number ∷ []) ≡ owned first number store.owners ++ length store.log ∷ [] =
      owned-append first number store.owners (number ∷ []) ∙ ap (λ (l : List ℕ). owned first number store.owners ++ l)
      (owned_one (first + length store.owners) number ∙ ap (λ (n : ℕ). n ∷ []) owners.each) in
      let entries : put_by number (store.owners ++ number ∷ []) (drop first (store.log ++ e ∷ [])) ≡ put_by number store.owners
      (drop first store.log) ++ e ∷ [] =
      ap (put_by number (store.owners ++ number ∷ [])) (sym (push_behind first store.log e (omega (arith, owners.each))))
      ∙ put_by-append number store.owners (number ∷ []) (drop first store.log) (e ∷ []) (omega (arith, owners.each, length-drop first store.log))
      ∙ ap (λ (l : List Edge). put_by number store.owners (drop first store.log) ++ l) (put_by_one number e) in
      subst (λ (s : Seat). IsPut e (length store.log) (standing_of device store number) (standing_as device next number s))
      (sym (seat_given store.seats number later session)) (record {
        put = record {
          onward = record {
            same_terms = refl;
            seen_more = rw same (take_all (length (take seat.seen store.log)) (take seat.seen store.log) (omega arith));
            seen_longer = omega (arith, ap length same);
            floor_later = omega arith;
            known_later = omega (arith, more);
            durable_later = omega arith;
            met_stays = λ met. met;
          };
          owned = own;
          put = entries;
          so_many = refl;
          rises = (omega arith, tt);
          known = All-push (λ p. p < length (store.log ++ e ∷ [])) [] (length store.log) (λ k d within. absurd (omega (arith, within))) (omega (arith, more));
          same_places = refl;
        };
        quota = omega (arith, some);
      })

  -- moving entries out of the ring keeps all, and is seen by none
  pub moves_see : (old new : PlainState D) (number : ℕ) → OnlyMoves old new → OnlySees (standing_of device old number) (standing_of device new number)
  moves_see old new number only =
      let next : PlainState D = record old { journal = new.journal; moved = new.moved; cuts = new.cuts } in
      let here = onward_self (standing_of device old number) in
      let from_old : OnlySees (standing_of device old number) (standing_of device next number) = record {
        kept = record {
          onward = record {
            same_terms = refl;
            seen_more = here.seen_more;
            seen_longer = here.seen_longer;
            floor_later = here.floor_later;
            known_later = here.known_later;
            durable_later = only.no_less;
            met_stays = only.met_stays;
          };
          same_own = refl;
          same_edges = refl;
          same_places = refl;
        };
        quota = refl;
      } in
      subst (λ (s : PlainState D). OnlySees (standing_of device old number) (standing_of device s number)) (sym only.same) from_old

  -- a call that was stopped while entries were moved out
  pub moves_stop : (old new : PlainState D) (number : ℕ) (why : Stop) → OnlyMoves old new → (why ≡ stops.Disk → is_spent new.journal ≡ true) →
      IsStopped why (standing_of device old number) (standing_of device new number)
  moves_stop old new number why only met = record { sees = moves_see old new number only; met = met }

  -- a put that was stopped so
  pub put_stops : (old new : PlainState D) (number : ℕ) (why : Stop) → OnlyMoves old new → (why ≡ stops.Disk → is_spent new.journal ≡ true) →
      IsPutStopped why (standing_of device old number) (standing_of device new number)
  put_stops old new number why only met =
      let sees = moves_see old new number only in
      record { kept = sees.kept; no_more = omega (arith, sees.quota); own_alone = omega (arith, sees.quota); met = met }
