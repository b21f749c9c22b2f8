-- What one session's turn leaves of the others.
use Rattle.std.proofs.Common.{◌≡◌, ◌≢◌, ℕ, ◌+◌, ◌<◌, ◌≤◌, List, [], ◌++◌, length, take, drop, replicate, refl, ap, arith, sym, subst, ◌∙◌}
use Rattle.std.specs.Prelude.{All, is_some}
use Rattle.std.proofs.lemmas.List.{append-nil, take-append-le, drop-append-le, length-drop, length-take, length-append}
use Rattle.std.proofs.Math.Nat.{min-le_right}
use Rattle.go_word.specs.declared.edge.Edge.{Edge}
use Rattle.go_api.specs.Standing.{Standing, Horizon, IsSound, IsBeside}
use Rattle.go_disk.specs.Device.{Device}
use Rattle.go_durable.specs.Journal.{journal_front, is_spent}
use Rattle.go_plain.specs.Owners.{owned, put_by, HasOwners}
use Rattle.go_plain.specs.Plain.{Origin, PlainState, standing_of, standing_as, GoesOnBy}
use Rattle.go_plain.specs.Seats.{seat_at}
use Rattle.go_plain.specs.declared.seat.Seat.{Seat}
use Rattle.go_plain.proofs.OwnersLemmas.{owned-append, owned_none, put_by-append, put_by_none}
use Rattle.go_session.specs.Session.{SessionState, AreAllowed, IsAt, CanGoOn, asked_in, world_of}
use Rattle.go_session.specs.Walk.{Replies, start}
use Rattle.go_session.proofs.GrowthLemmas.{Grows, replies_grow}

-- a standing beside which the log may have grown, more of it may be durable, and a fault of the disk may have been met
abbrev beside : Standing → Standing → Standing
beside before after = record before { log = record before.log { known = after.log.known; durable = after.log.durable }; met = after.met }

-- the world that a standing sees grows
world_beside : (before after : Standing) → before.log.known ≤ after.log.known → Grows (world_of before) (world_of (beside before after))
world_beside before after more = record {
  same = record { first = refl; vertices = refl; ring = refl; told = refl };
  more_own = [];
  more_log = [];
  own = sym (append-nil before.own);
  log = sym (append-nil before.log.seen);
  known = more;
}

sound_beside : (before after : Standing) → IsBeside before after → IsSound before → IsSound (beside before after)
sound_beside before after is sound = record {
  sees = record {
    old_seen = sound.sees.old_seen;
    floor_seen = sound.sees.floor_seen;
    seen_known = omega (arith, sound.sees.seen_known, is.known_later);
    short = sound.sees.short;
    ids = sound.sees.ids;
  };
  owns = record {
    rises = sound.owns.rises;
    known = λ k d within. (let below = sound.owns.known k d within in omega (arith, below, is.known_later));
    put = sound.owns.put;
  };
  count = sound.count;
  shown = sound.shown;
}

allowed_beside : (loads : List (List Edge)) (session : SessionState) (before after : Standing) → IsBeside before after → AreAllowed loads session before →
    AreAllowed loads session (beside before after)
allowed_beside loads session before after is allowed = record {
  sound = sound_beside before after is allowed.sound;
  follows = record {
    below = allowed.follows.below;
    entries = allowed.follows.entries;
    script = allowed.follows.script;
    some = allowed.follows.some;
  };
  allowed = replies_grow (world_of before) (world_of (beside before after)) (asked_in loads session) session.replies
      (world_beside before after is.known_later)
      (let old = allowed.sound.sees.old_seen in let floor = allowed.sound.sees.floor_seen in omega arith) allowed.allowed;
  told_first = allowed.told_first;
  seen = allowed.seen;
  low = omega (arith, allowed.low, is.known_later);
  synced = λ front there. (let durable = allowed.synced front there in omega (arith, durable, is.durable_later));
}

-- another session that can go on can so beside what came
pub beside_keeps_can : (loads : List (List Edge)) (session : SessionState) (before after : Standing) → IsBeside before after → CanGoOn loads session before →
    CanGoOn loads session after
beside_keeps_can loads session before after is can =
    let at = can.at in
    let there : CanGoOn loads session (beside before after) = record {
      at = record {
        allowed = allowed_beside loads session before after is at.allowed;
        used = at.used;
        put = at.put;
        places = record { places = at.places.places; kinds = at.places.kinds };
      };
      quota = can.quota;
    } in
    subst (λ (s : Standing). CanGoOn loads session s) (sym is.same) there

-- how a handle stands, by what its store has of it
abbrev shaped : {D : Type 0} → Device D → PlainState D → Origin D → ℕ → List ℕ → List Edge → List Edge → Seat → Standing
shaped device new origin room own edges seen seat = record {
  terms = record { first = origin.first; vertices = origin.vertices; ring = room; told = is_some (device.contents origin.disk) };
  own = own;
  edges = edges;
  log = record { seen = seen; floor = seat.seen; known = length new.log; durable = journal_front new.journal };
  quota = seat.quota;
  places = seat.places;
  met = is_spent new.journal;
}

-- one session's turn leaves the standing of each other one
pub standing_beside : {D : Type 0} (device : Device D) (number other : ℕ) (old new : PlainState D) → GoesOnBy device number old new →
    old.origin.first + length old.owners ≡ length old.log → 1 ≤ other → other ≢ number → IsSound (standing_of device old other) →
    IsBeside (standing_of device old other) (standing_of device new other)
standing_beside {D} device number other old new goes each some apart sound =
    let first = old.origin.first in
    let k = length goes.grows.more in
    let seat = seat_at old.seats other in
    let own : owned new.origin.first other new.owners ≡ owned first other old.owners =
    ap (λ (o : Origin D). owned o.first other new.owners) goes.origin ∙ ap (λ (l : List ℕ). owned first other l) goes.grows.owners
    ∙ owned-append first other old.owners (replicate k number)
    ∙ ap (λ (l : List ℕ). owned first other old.owners ++ l) (owned_none (first + length old.owners) number other k apart)
    ∙ append-nil (owned first other old.owners) in
    let behind : drop first new.log ≡ drop first old.log ++ goes.grows.more =
    ap (λ (l : List Edge). drop first l) goes.grows.log ∙ drop-append-le first old.log goes.grows.more (omega (arith, each)) in
    let edges : put_by other new.owners (drop new.origin.first new.log) ≡ put_by other old.owners (drop first old.log) =
    ap (λ (o : Origin D). put_by other new.owners (drop o.first new.log)) goes.origin
    ∙ ap (λ (l : List ℕ). put_by other l (drop first new.log)) goes.grows.owners
    ∙ ap (λ (l : List Edge). put_by other (old.owners ++ replicate k number) l) behind
    ∙ put_by-append other old.owners (replicate k number) (drop first old.log) goes.grows.more (omega (arith, each, length-drop first old.log))
    ∙ ap (λ (l : List Edge). put_by other old.owners (drop first old.log) ++ l) (put_by_none number other k goes.grows.more apart)
    ∙ append-nil (put_by other old.owners (drop first old.log)) in
    let within : seat.seen ≤ length old.log =
    (let floor = sound.sees.floor_seen in let taken = length-take seat.seen old.log in let most = min-le_right seat.seen (length old.log) in omega arith) in
    let seats = goes.others.each other some apart in
    let seen : take (seat_at new.seats other).seen new.log ≡ take seat.seen old.log =
    ap (λ (s : Seat). take s.seen new.log) seats ∙ ap (λ (l : List Edge). take seat.seen l) goes.grows.log
    ∙ take-append-le seat.seen old.log goes.grows.more within in
    record {
      same = ap (λ (o : Origin D). shaped device new o new.room (owned new.origin.first other new.owners)
          (put_by other new.owners (drop new.origin.first new.log)) (take (seat_at new.seats other).seen new.log) (seat_at new.seats other)) goes.origin
          ∙ ap (λ (n : ℕ). shaped device new old.origin n (owned new.origin.first other new.owners)
          (put_by other new.owners (drop new.origin.first new.log)) (take (seat_at new.seats other).seen new.log) (seat_at new.seats other)) goes.room
          ∙ ap (λ (l : List ℕ). shaped device new old.origin old.room l (put_by other new.owners (drop new.origin.first new.log))
          (take (seat_at new.seats other).seen new.log) (seat_at new.seats other)) own
          ∙ ap (λ (l : List Edge). shaped device new old.origin old.room (owned first other old.owners) l (take (seat_at new.seats other).seen new.log)
          (seat_at new.seats other)) edges
          ∙ ap (λ (l : List Edge). shaped device new old.origin old.room (owned first other old.owners) (put_by other old.owners (drop first old.log)) l
          (seat_at new.seats other)) seen
          ∙ ap (λ (s : Seat). shaped device new old.origin old.room (owned first other old.owners) (put_by other old.owners (drop first old.log))
          (take seat.seen old.log) s) seats;
      known_later = (let longer = ap (λ (l : List Edge). length l) goes.grows.log in let more = length-append old.log goes.grows.more in omega arith);
      durable_later = goes.no_less;
      met_stays = goes.met_stays;
    }
