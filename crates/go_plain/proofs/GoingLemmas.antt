-- How a store goes on by the calls of one session, and what that leaves of another one's standing.
use Rattle.std.proofs.Common.{◌≡◌, ◌≢◌, ℕ, ◌+◌, ◌-◌, ◌<◌, ◌≤◌, true, List, [], ◌∷◌, ◌++◌, length, take, drop, replicate, refl, ap, arith, sym, subst, ◌∙◌}
use Rattle.std.proofs.Common.{length-append, append-nil}
use Rattle.std.proofs.lemmas.List.{length-drop, length-take, take-append-le, drop-append-le}
use Rattle.go_word.specs.declared.edge.Edge.{Edge}
use Rattle.go_api.specs.Standing.{Standing, IsBeside}
use Rattle.go_disk.specs.Device.{Device}
use Rattle.go_durable.specs.Journal.{journal_front, is_spent}
use Rattle.go_plain.specs.Owners.{owned, put_by}
use Rattle.go_plain.specs.Plain.{Origin, PlainState, HasSession, IsStore, standing_as, standing_of, TellsRisen, OnlyMoves, GrowsBy, GoesOnBy, pushed}
use Rattle.go_plain.specs.GoingOn.{store_same, store_onwards}
use Rattle.go_plain.specs.Seats.{seat_at, seats_with}
use Rattle.go_plain.specs.declared.seat.Seat.{Seat}
use Rattle.go_plain.proofs.OwnersLemmas.{owned-append, put_by-append, owned_none, put_by_none}
use Rattle.go_plain.proofs.SeatsLemmas.{others_kept}

module _ {D : Type 0} (device : Device D) where
  -- by an entry that its session put
  pub by_push : (number : ℕ) (store : PlainState D) (e : Edge) → HasSession store number → GoesOnBy device number store (pushed store number e)
  by_push number store e session = record {
    origin = refl;
    room = refl;
    grows = record { more = e ∷ []; log = refl; owners = refl };
    others = others_kept store.seats number (record (seat_at store.seats number) { quota = (seat_at store.seats number).quota - 1 }) session;
    no_less = omega arith;
    met_stays = λ met. met;
    risen = λ was. was;
  }

  -- by another seat of its own
  pub by_seat : (number : ℕ) (store : PlainState D) (seat : Seat) → HasSession store number →
      GoesOnBy device number store (record store { seats = seats_with store.seats number seat })
  by_seat number store seat session = record {
    origin = refl;
    room = refl;
    grows = record { more = []; log = sym (append-nil store.log); owners = sym (append-nil store.owners) };
    others = others_kept store.seats number seat session;
    no_less = omega arith;
    met_stays = λ met. met;
    risen = λ was. was;
  }

  -- by moving entries out of the ring
  pub by_moves : (number : ℕ) (old new : PlainState D) → OnlyMoves old new → TellsRisen device new → GoesOnBy device number old new
  by_moves number old new only risen =
      let Goes : PlainState D → Type 0 = λ s. GoesOnBy device number old s in
      record {
        origin = ap (λ (s : PlainState D). s.origin) only.same;
        room = ap (λ (s : PlainState D). s.room) only.same;
        grows = record {
          more = [];
          log = ap (λ (s : PlainState D). s.log) only.same ∙ sym (append-nil old.log);
          owners = ap (λ (s : PlainState D). s.owners) only.same ∙ sym (append-nil old.owners);
        };
        others = record {
          count = ap (λ (s : PlainState D). length s.seats) only.same;
          each = λ other some apart. ap (λ (s : PlainState D). seat_at s.seats other) only.same;
        };
        no_less = only.no_less;
        met_stays = only.met_stays;
        risen = λ was. risen;
      }

  -- what another session put stays
  other_own : (number other : ℕ) (old new : PlainState D) → GrowsBy number old new → other ≢ number →
      owned old.origin.first other new.owners ≡ owned old.origin.first other old.owners
  other_own number other old new grows apart =
      ap (owned old.origin.first other) grows.owners
      ∙ owned-append old.origin.first other old.owners (replicate (length grows.more) number)
      ∙ ap (λ (l : List ℕ). owned old.origin.first other old.owners ++ l)
      (owned_none (old.origin.first + length old.owners) number other (length grows.more) apart)
      ∙ append-nil (owned old.origin.first other old.owners)

  other_edges : (number other : ℕ) (old new : PlainState D) → GrowsBy number old new → other ≢ number → old.origin.first + length old.owners ≡ length old.log →
      put_by other new.owners (drop old.origin.first new.log) ≡ put_by other old.owners (drop old.origin.first old.log)
  other_edges number other old new grows apart long =
      let first = old.origin.first in
      let later : List ℕ = replicate (length grows.more) number in
      let entries : drop first new.log ≡ drop first old.log ++ grows.more =
      ap (drop first) grows.log ∙ drop-append-le first old.log grows.more (omega (arith, long)) in
      ap (λ (o : List ℕ). put_by other o (drop first new.log)) grows.owners
      ∙ ap (put_by other (old.owners ++ later)) entries
      ∙ put_by-append other old.owners later (drop first old.log) grows.more (omega (arith, long, length-drop first old.log))
      ∙ ap (λ (l : List Edge). put_by other old.owners (drop first old.log) ++ l) (put_by_none number other (length grows.more) grows.more apart)
      ∙ append-nil (put_by other old.owners (drop first old.log))

  -- so the standing of each other session stays, but for how long the log is, how much of it is durable, and whether a fault of the disk was met
  pub beside : (number other : ℕ) (old new : PlainState D) → GoesOnBy device number old new → IsStore device old → HasSession old other → other ≢ number →
      IsBeside (standing_of device old other) (standing_of device new other)
  beside number other old new on store session apart =
      let seat = seat_at old.seats other in
      let seats : seat_at new.seats other ≡ seat = on.others.each other session.from apart in
      let long = store.owners.each in
      let sound = store.sound other session in
      let seen : take seat.seen new.log ≡ take seat.seen old.log =
      ap (take seat.seen) on.grows.log ∙ take-append-le seat.seen old.log on.grows.more (seen_there seat.seen old.log sound.sees.floor_seen) in
      let more : length old.log ≤ length new.log = omega (arith, ap length on.grows.log, length-append old.log on.grows.more) in
      let same : standing_as device new other seat ≡ record (standing_of device old other) {
        log = record { seen = take seat.seen old.log; floor = seat.seen; known = length new.log; durable = journal_front new.journal };
        met = is_spent new.journal;
      } = rw (on.origin, on.room, other_own number other old new on.grows apart, other_edges number other old new on.grows apart long, seen) refl in
      record {
        same = ap (standing_as device new other) seats ∙ same;
        known_later = more;
        durable_later = on.no_less;
        met_stays = on.met_stays;
      }
    where
      seen_there : (n : ℕ) (log : List Edge) → n ≤ length (take n log) → n ≤ length log
      seen_there n log within = omega (arith, within, length-take n log)
