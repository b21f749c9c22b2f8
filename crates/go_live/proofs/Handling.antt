-- A handle after a call by which its seat has gone on, and its session was shown no less.
use Rattle.std.proofs.Common.{◌≡◌, ℕ, ◌<◌, ◌≤◌, true, false, Bool, List, length, map, sym, refl, ap, ◌∙◌, ◌||◌, arith, subst}
use Rattle.std.specs.Prelude.{All, max}
use Rattle.std.proofs.lemmas.List.Elements.{All-weaker}
use Rattle.std.proofs.lemmas.List.{length-take-le}
use Rattle.atomic_table.specs.Seated.{TableId}
use Rattle.atomic_table.specs.Table.{Me, step}
use mathlib.Core.Option.{none}
use Rattle.go_api.specs.Calls.{IsFront, OnlySees}
use Rattle.go_api.specs.Standing.{ShowsUpTo}
use Rattle.go_api.specs.declared.place.Place.{Place}
use Rattle.go_api.specs.declared.place.Place.TheVariants as places
use Rattle.go_core.specs.Frame.{Frame}
use Rattle.go_rule.specs.declared.layout.Key.{Key}
use Rattle.go_rule.specs.declared.view.About.{About}
use Rattle.go_rule.specs.declared.view.SeatView.{SeatView}
use Rattle.go_rule.specs.Views.{frame_of}
use Rattle.go_api.specs.declared.stop.Stop.{Stop}
use Rattle.go_api.specs.declared.stop.Stop.TheVariants.{Disk, Memory}
use Rattle.go_ring.specs.Calls.{cause_of}
use Rattle.go_turns.specs.Going.{HasGoneOn, IsFlagged, KnowsMore}
use Rattle.go_piece.specs.declared.piece.Piece.{Piece}
use Rattle.go_live.specs.declared.handle.Handle.{Handle}
use Rattle.go_live.specs.declared.held.Held.{Held}
use Rattle.go_live.specs.Going.{ServesOn}
use Rattle.go_live.specs.Handles.{is_disk, HasPlaces, IsHandle, IsKept, IsOf, KnowsLog, SeesTo, kept_of, stands_in}
use Rattle.go_live.specs.Standings.{Kept, place_of, positions_of, standing_of}
use Rattle.go_live.proofs.Onward.{sees_more, serves_going}
use Rattle.go_live.proofs.SeatLooks.{saw_flag}
use Rattle.go_live.proofs.Sound.{below_greater}
use Rattle.go_live.proofs.Steady.{kept_going, nothing_going}

-- what a place shows is within what was seen later too
pub shows_later : (seen later : ℕ) (place : Place) → seen ≤ later → ShowsUpTo seen place → ShowsUpTo later place
shows_later seen later places.Free more shows = tt
shows_later seen later (places.View front) more shows = omega arith
shows_later seen later (places.Stream cursor) more shows = omega arith

-- numbers that are found to be the same
pub same_number : (n m : ℕ) → n ≡ m → n ≡ m
same_number n m same = same

-- a seat that has seen the log up to two fronts has seen it up to the greater one
pub sees_either : {P : Type 0} (n m : ℕ) (d : SeatView P) → SeesTo n d → SeesTo m d → SeesTo (max n m) d
sees_either n m d one two =
    let seen1 = one.seen in
    let seen2 = two.seen in
    let there1 = one.there in
    let there2 = two.there in
    record { seen = omega arith; there = omega arith }

module _ {P : Type 0} (shards : ℕ) (d : SeatView P) where
  -- a session was shown more of what its seat has seen
  pub kept_shown : (kept : Kept) (seen : ℕ) (met : Bool) → kept.seen ≤ seen → SeesTo seen d → (met ≡ true → d.told.flagged ≡ true) → IsKept shards kept d
      → IsKept shards (record kept { seen = seen; met = met }) d
  kept_shown kept seen met more sees flagged is =
      let from = is.fronts.from in
      record {
        owns = is.owns;
        fronts = record { from = omega arith; to = sees; archived = is.fronts.archived; durable = is.fronts.durable };
        places = record {
          count = is.places.count;
          shown = All-weaker (ShowsUpTo kept.seen) (ShowsUpTo seen) (λ p. shows_later kept.seen seen p more) (map place_of kept.held) is.places.shown;
          views = is.places.views;
          apart = is.places.apart;
        };
        met = flagged;
      }

-- what was met before is met still, as the seat saw the flag raised
pub met_still : {P : Type 0} (met : Bool) (d e : SeatView P) → KnowsMore d e → (met ≡ true → d.told.flagged ≡ true) → met ≡ true → e.told.flagged ≡ true
met_still met d e knows flagged is = knows.flagged (flagged is)

-- what is met was met before, or is a fault of the disk by which a call was stopped now
pub met_seen : {P : Type 0} (met : Bool) (d : SeatView P) (why : Stop) → (met ≡ true → d.told.flagged ≡ true) → (why ≡ Disk → d.told.flagged ≡ true)
    → (met || is_disk why) ≡ true → d.told.flagged ≡ true
met_seen true d why before now is = before refl
met_seen false d Disk before now is = now refl
met_seen false d Memory before now is = absurd (let h : false ≡ true = is in cc)

-- a fault of the disk is met now
pub met_now : (met : Bool) (why : Stop) → why ≡ Disk → (met || is_disk why) ≡ true
met_now true why disk = refl
met_now false why disk = ap is_disk disk

-- it was met before, or is now: it stays so
pub met_stays : (met : Bool) (why : Stop) → met ≡ true → (met || is_disk why) ≡ true
met_stays met why is = ap (λ b. b || is_disk why) is

module _ {D : Type 0} (table : TableId) (key : Key (Piece D)) (h now : Handle D) where
  -- all but the seat's view, the words, and what was shown and met is as it was
  pub record IsSameBut : Type 0 where
    pub table_is : now.seat.table_id ≡ h.seat.table_id
    pub id_is : now.seat.id ≡ h.seat.id
    pub hand : now.seat.me.1 ≡ h.seat.me.1
    pub words : length now.words.items ≡ length h.words.items
    pub numbers : (now.first ≡ h.first) × (now.vertices ≡ h.vertices)
    pub next : now.next ≡ h.next
    pub held : now.held.items ≡ h.held.items

  -- it is of its ring still
  pub of_still : IsSameBut → HasGoneOn (frame_of key) h.seat.me.0 now.seat.me.0 → IsOf table key h → IsOf table key now
  of_still same on is =
      let about : now.seat.me.0.about ≡ h.seat.me.0.about = ap (λ z. z.about) on.rest in
      record {
        at = (same.table_is ∙ is.at.0, ap (λ z. z.core.live) on.rest ∙ is.at.1);
        sized = is.sized;
        vertices_are = ap (λ (a : About). a.vertices) about ∙ is.vertices_are;
        vertices = same.numbers.1 ∙ is.vertices ∙ sym (ap (λ (a : About). a.vertices) about);
        first = same.numbers.0 ∙ is.first ∙ sym (ap (λ (a : About). a.first) about);
        words = same.words ∙ is.words;
      }

  module _ (same : IsSameBut) (on : HasGoneOn (frame_of key) h.seat.me.0 now.seat.me.0) (more : h.seen ≤ now.seen) (is : IsHandle table key h) where
    -- it is a handle still
    pub handle_still : SeesTo now.seen now.seat.me.0 → KnowsLog now.seen now.seat.me.0 → (now.met ≡ true → now.seat.me.0.told.flagged ≡ true)
        → IsHandle table key now
    handle_still sees knows met =
        let shards = key.layout.shards in
        let d = now.seat.me.0 in
        let shown : IsKept shards (record (kept_of h) { seen = now.seen; met = now.met }) d =
        kept_shown shards d (kept_of h) now.seen now.met more sees met (kept_going key (kept_of h) h.seat.me.0 d on is.steady.kept)
        in
        record {
          steady = record {
            of = of_still same on is.steady.of;
            nothing = nothing_going (frame_of key) h.seat.me now.seat.me on same.hand is.steady.nothing;
            kept = subst (λ (next : ℕ). IsKept shards (record { seen = now.seen; next = next; held = now.held.items; met = now.met }) d) (sym same.next)
                (subst (λ (held : List Held). IsKept shards (record { seen = now.seen; next = h.next; held = held; met = now.met }) d) (sym same.held) shown);
          };
          knows = knows;
        }

    -- its session sees no less
    pub only_sees : SeesTo now.seen now.seat.me.0 → (h.met ≡ true → now.met ≡ true) → OnlySees (stands_in key h) (stands_in key now)
    only_sees sees met =
        sees_more key.layout.ring (kept_of h) (kept_of now) h.seat.me.0 now.seat.me.0 (frame_of key) on more is.steady.kept.fronts.to.there sees.there met
        (ap (λ (xs : List Held). map place_of xs) same.held)

  -- it serves on
  pub serves_on : IsSameBut → HasGoneOn (frame_of key) h.seat.me.0 now.seat.me.0 → ServesOn h now
  serves_on same on = record { table = same.table_is; id = same.id_is; serves = serves_going (frame_of key) h.seat.me.0 now.seat.me.0 on }

-- a seat that loaded the flag on its way, and found a cause there, saw it raised
pub flagged_on : {P S : Type 0} (f : Frame) (slots : ℕ) (why : Stop) (me now : Me S (SeatView P)) → IsFlagged f slots (cause_of why) me now
    → now.0.told.flagged ≡ true
flagged_on f slots why me now flagged = flagged.left.flagged (saw_flag (step slots 3 0 0 none) flagged.before flagged.after why flagged.load)

-- a front that a session is shown, where neither what it was shown before nor an own entry is behind it
pub front_shown : {P : Type 0} (slots front : ℕ) (before after : Kept) (d g : SeatView P) → before.seen ≤ front → before.next ≤ front → front ≤ after.seen
    → after.seen ≤ length g.told.seen → All (λ p. p < before.next) (positions_of d.core.own) → IsFront front (standing_of slots before d) (standing_of slots after g)
front_shown slots front before after d g older next floor there own =
    let long = length-take-le after.seen g.told.seen there in
    record {
      not_older = older;
      above_own = below_greater before.next front (positions_of d.core.own) next own;
      is_end = omega arith;
      floor = floor;
    }
