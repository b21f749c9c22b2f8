-- A handle that has something else at a place, after a call by which its seat has moved on, and a load of the log's length.
use Rattle.std.proofs.Common.{◌≡◌, ◌≢◌, ℕ, ◌+◌, ◌-◌, ◌<◌, ◌≤◌, true, List, length, take, drop, map, slice_get, Some, sym, refl, ap, ◌∙◌, arith, subst}
use Rattle.std.specs.Prelude.{max, min, slice_set}
use Rattle.std.proofs.lemmas.List.{drop-take, map-set, take-take}
use Rattle.atomic_table.specs.Seated.{TableId}
use Rattle.go_word.specs.declared.edge.Edge.{Edge}
use Rattle.go_api.specs.declared.answers.Span.{Span}
use Rattle.go_api.specs.Calls.{IsFront, IsPlacedAt, IsStarted, IsUpdated, IsViewed}
use Rattle.go_api.specs.declared.place.Place.TheVariants as places
use Rattle.go_api.specs.Standing.{ShowsUpTo}
use Rattle.go_core.specs.declared.entry.Entry.{Entry}
use Rattle.go_rule.specs.declared.layout.Key.{Key}
use Rattle.go_rule.specs.declared.view.About.{About}
use Rattle.go_rule.specs.declared.view.SeatView.{SeatView}
use Rattle.go_rule.specs.Views.{frame_of}
use Rattle.go_turns.specs.Going.{HasGoneOn, KnowsMore}
use Rattle.go_turns.proofs.Going.{knows_further}
use Rattle.go_piece.specs.declared.piece.Piece.{Piece}
use Rattle.go_views.specs.Pins.{HasMovedOn}
use Rattle.go_views.specs.Views.{View as AView, IsView}
use Rattle.go_views.proofs.Staying.{view_stays_going}
use Rattle.go_live.specs.declared.handle.Handle.{Handle}
use Rattle.go_live.specs.declared.held.Held.{Held}
use Rattle.go_live.specs.declared.held.Held.TheVariants.{View}
use Rattle.go_live.specs.Going.{Serves, ServesOn}
use Rattle.go_live.specs.GoingOn.{serves_onwards}
use Rattle.go_live.specs.Handles.{HasPlaces, IsHandle, KnowsLog, OwnsUpTo, SeesTo, kept_of, stands_in}
use Rattle.go_live.specs.Standings.{edges_of, place_of, positions_of}
use Rattle.go_live.proofs.Handling.{front_shown}
use Rattle.go_live.proofs.Onward.{goes_onward, serves_going}
use Rattle.go_live.proofs.Places.{MayHold, places_set}
use Rattle.go_live.proofs.Steady.{fronts_still, owns_still, places_still, sees_still, shard_place}

-- entries of what was seen are those of what was shown
shown_stretch : (told : List Edge) (from to seen : ℕ) (list : List Edge) → from ≤ to → to ≤ seen
    → take (to - from) (drop from told) ≡ drop from (take to (take seen told))
shown_stretch told from to seen list order within =
    let step : from + (to - from) ≡ to = omega arith in
    sym (ap (drop from) (take-take to seen told within) ∙ ap (λ n. drop from (take n told)) (sym step) ∙ drop-take from (to - from) told)

module _ {D : Type 0} (table : TableId) (key : Key (Piece D)) (h now : Handle D) (k : ℕ) (new : Held) (e : SeatView (Piece D)) where
  -- all else of the handle is as it was, but for the seat's view, the words, and what was shown
  pub record HasPut : Type 0 where
    pub table_is : now.seat.table_id ≡ h.seat.table_id
    pub id_is : now.seat.id ≡ h.seat.id
    pub hand : now.seat.me.1 ≡ h.seat.me.1
    pub words : length now.words.items ≡ length h.words.items
    pub numbers : (now.first ≡ h.first) × (now.vertices ≡ h.vertices)
    pub next : now.next ≡ h.next
    pub met : now.met ≡ h.met
    pub held : now.held.items ≡ slice_set h.held.items k new
    pub moved : HasMovedOn h.seat.me.0 e
    pub on : HasGoneOn (frame_of key) e now.seat.me.0

  -- what was put there may stand there
  pub record MayStand : Type 0 where
    pub within : k < length h.held.items
    pub more : h.seen ≤ now.seen
    pub sees : SeesTo now.seen e
    pub shows : ShowsUpTo now.seen (place_of new)
    pub stays : (j : ℕ) (view : AView) → j ≢ k → slice_get h.held.items j ≡ Some (View view) → IsView key.layout.shards view h.seat.me.0
        → IsView key.layout.shards view e
    pub may : MayHold key.layout.shards e h.held.items k new
    pub knows : KnowsLog now.seen now.seat.me.0

  module _ (put : HasPut) (stand : MayStand) (is : IsHandle table key h) where
    about : now.seat.me.0.about ≡ h.seat.me.0.about
    about = ap (λ z. z.about) put.on.rest ∙ ap (λ z. z.about) put.moved.rest

    own : now.seat.me.0.core.own ≡ h.seat.me.0.core.own
    own = ap (λ z. z.core.own) put.on.rest ∙ ap (λ z. z.core.own) put.moved.rest

    knows : KnowsMore h.seat.me.0 now.seat.me.0
    knows = knows_further h.seat.me.0 e now.seat.me.0 put.moved.knows put.on.knows

    -- it serves on
    pub put_serves : ServesOn h now
    put_serves =
        let d = h.seat.me.0 in
        let moved : Serves d e = record {
          about = ap (λ z. z.about) put.moved.rest;
          lot = ap (λ z. z.share.lot) put.moved.rest;
          joined = ap (λ z. z.core.joined) put.moved.rest;
          heard = ap (λ z. z.told.heard) put.moved.rest;
          flagged = put.moved.knows.flagged;
          memory = ap (λ z. z.core.memory_raised) put.moved.rest;
        } in
        record {
          table = put.table_is;
          id = put.id_is;
          serves = serves_onwards d e now.seat.me.0 moved (serves_going (frame_of key) e now.seat.me.0 put.on);
        }

    sees : SeesTo now.seen now.seat.me.0
    sees = sees_still now.seen e now.seat.me.0 put.on.knows stand.sees

    -- it is a handle
    pub put_handle : IsHandle table key now
    put_handle =
        let d = h.seat.me.0 in
        let g = now.seat.me.0 in
        let shards = key.layout.shards in
        let old = fronts_still h.seen d g about knows is.steady.kept.fronts in
        let from = old.from in
        let more = stand.more in
        let there : HasPlaces shards now.seen (slice_set h.held.items k new) e =
        places_set shards e d h.seen now.seen h.held.items k new stand.within more stand.shows stand.stays stand.may is.steady.kept.places
        in
        record {
          steady = record {
            of = record {
              at = (put.table_is ∙ is.steady.of.at.0, ap (λ z. z.core.live) put.on.rest ∙ ap (λ z. z.core.live) put.moved.rest ∙ is.steady.of.at.1);
              sized = is.steady.of.sized;
              vertices_are = ap (λ (a : About). a.vertices) about ∙ is.steady.of.vertices_are;
              vertices = put.numbers.1 ∙ is.steady.of.vertices ∙ sym (ap (λ (a : About). a.vertices) about);
              first = put.numbers.0 ∙ is.steady.of.first ∙ sym (ap (λ (a : About). a.first) about);
              words = put.words ∙ is.steady.of.words;
            };
            nothing = record {
              pending = ap (λ z. z.core.pending) put.on.rest ∙ ap (λ z. z.core.pending) put.moved.rest ∙ is.steady.nothing.pending;
              notes = ap (λ z. z.stake.notes) put.on.rest ∙ ap (λ z. z.stake.notes) put.moved.rest ∙ is.steady.nothing.notes;
              slots = put.hand ∙ is.steady.nothing.slots;
            };
            kept = record {
              owns = subst (λ n. OwnsUpTo n g) (sym put.next) (owns_still h.next d g about own knows is.steady.kept.owns);
              fronts = record { from = omega arith; to = sees; archived = old.archived; durable = old.durable };
              places = subst (λ (held : List Held). HasPlaces shards now.seen held g) (sym put.held)
                  (places_still shards now.seen (slice_set h.held.items k new) e g
                  (λ view. view_stays_going shards view e g (frame_of key) (shard_place key) put.on) there);
              met = λ met. knows.flagged (is.steady.kept.met (sym put.met ∙ met));
            };
          };
          knows = stand.knows;
        }

    -- the place holds it
    pub put_stands : IsPlacedAt k (place_of new) (stands_in key h) (stands_in key now)
    put_stands =
        let d = h.seat.me.0 in
        let g = now.seat.me.0 in
        record {
          onward = goes_onward key.layout.ring (kept_of h) (kept_of now) d g about knows stand.more is.steady.kept.fronts.to.there sees.there
              (λ met. put.met ∙ met);
          puts = record {
            same_own = ap positions_of own;
            same_edges = ap edges_of own;
            same_quota = ap (λ z. z.share.quota) put.on.rest ∙ ap (λ z. z.share.quota) put.moved.rest;
          };
          placed = ap (λ (xs : List Held). map place_of xs) put.held ∙ map-set place_of h.held.items k new;
        }

    -- a front is shown with it
    put_front : (front : ℕ) → h.seen ≤ front → h.next ≤ front → front ≤ now.seen → IsFront front (stands_in key h) (stands_in key now)
    put_front front older next floor =
        front_shown key.layout.ring front (kept_of h) (kept_of now) h.seat.me.0 now.seat.me.0 older next floor sees.there is.steady.kept.owns.before

    pub put_viewed : (front : ℕ) → place_of new ≡ places.View front → h.seen ≤ front → h.next ≤ front → front ≤ now.seen
        → IsViewed k front (stands_in key h) (stands_in key now)
    put_viewed front shown older next floor =
        record {
          holds = subst (λ place. IsPlacedAt k place (stands_in key h) (stands_in key now)) shown put_stands;
          front_is = put_front front older next floor;
        }

    pub put_started : (cursor : ℕ) → place_of new ≡ places.Stream cursor → h.seen ≤ cursor → h.next ≤ cursor → cursor ≤ now.seen
        → IsStarted k cursor (stands_in key h) (stands_in key now)
    put_started cursor shown older next floor =
        record {
          holds = subst (λ place. IsPlacedAt k place (stands_in key h) (stands_in key now)) shown put_stands;
          front_is = put_front cursor older next floor;
        }

    -- a stream gave the entries from its cursor on, by an end, and what was shown goes up to where it stands then, or to the least front if that is behind it
    pub put_updated : (most end least : ℕ) (span : Span) (list : List Edge) → place_of new ≡ places.Stream span.to
        → slice_get (map place_of h.held.items) k ≡ Some (places.Stream span.from) → h.seen ≤ least → h.next ≤ least → least ≤ end
        → span.to ≡ min (span.from + most) end → now.seen ≡ max span.to least → span.from + length list ≡ span.to
        → (e.about.tells ≡ true → list ≡ take (span.to - span.from) (drop span.from e.told.seen)) → now.seat.me.0.told ≡ e.told
        → IsUpdated k most list span (stands_in key h) (stands_in key now)
    put_updated most end least span list shown from older next floor to seen many tells told =
        record {
          front = now.seen;
          from_cursor = from;
          front_is = put_front now.seen (omega arith) (omega arith) (omega arith);
          ends = omega arith;
          holds = subst (λ place. IsPlacedAt k place (stands_in key h) (stands_in key now)) shown put_stands;
          so_many = many;
          shown = λ is_told.
              tells (sym (ap (λ z. z.about.tells) put.on.rest) ∙ is_told)
              ∙ shown_stretch e.told.seen span.from span.to now.seen list (omega arith) (omega arith)
              ∙ ap (λ (log : List Edge). drop span.from (take span.to (take now.seen log))) (sym (ap (λ t. t.seen) told));
        }
