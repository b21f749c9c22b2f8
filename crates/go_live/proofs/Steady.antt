-- What holds of a handle lasts while its seat goes on.
use Rattle.std.proofs.Common.{◌≡◌, ℕ, ◌+◌, ◌<◌, ◌≤◌, true, List, [], map, length, sym, ap, ◌∙◌, arith, subst}
use Rattle.std.specs.Prelude.{All}
use Rattle.atomic_table.specs.Seated.{TableId}
use Rattle.atomic_table.specs.Table.{Me}
use Rattle.go_core.specs.Frame.{Frame}
use Rattle.go_core.specs.Parts.{IsShardPlace}
use Rattle.go_core.specs.declared.entry.Entry.{Entry}
use Rattle.go_rule.specs.declared.layout.Key.{Key}
use Rattle.go_rule.specs.declared.view.About.{About}
use Rattle.go_rule.specs.declared.view.SeatView.{SeatView}
use Rattle.go_rule.specs.Rule.{Begins}
use Rattle.go_rule.specs.Views.{frame_of}
use Rattle.go_rule.proofs.Beginnings.{begins_within}
use Rattle.go_turns.specs.Going.{HasGoneOn, KnowsMore}
use Rattle.go_views.specs.Views.{View as AView, IsView}
use Rattle.go_views.proofs.Staying.{view_stays_going, view_stays_stepping}
use Rattle.go_api.specs.Laid.{Rises}
use Rattle.go_live.specs.declared.held.Held.{Held}
use Rattle.go_live.specs.Handles.{HasFronts, HasNothing, HasPlaces, IsKept, OwnsUpTo, SeesTo}
use Rattle.go_live.specs.Standings.{Kept, positions_of}

-- the place of a shard is one of the ring's shard places
pub shard_place : {P : Type 0} (key : Key P) (place : ℕ) → place < key.layout.shards → IsShardPlace (frame_of key) place
shard_place key place less = omega arith

module _ {P : Type 0} where
  -- what a seat has seen up to a front, it has seen once it knows more
  pub sees_still : (front : ℕ) (d e : SeatView P) → KnowsMore d e → SeesTo front d → SeesTo front e
  sees_still front d e knows to =
      let seen = knows.seen in
      let longer = begins_within e.told.seen d.told.seen knows.begins in
      let one = to.seen in
      let two = to.there in
      record { seen = omega arith; there = omega arith }

  -- the fronts that a session was shown stay so
  pub fronts_still : (seen : ℕ) (d e : SeatView P) → e.about ≡ d.about → KnowsMore d e → HasFronts seen d → HasFronts seen e
  fronts_still seen d e about knows fronts =
      let first : e.about.first ≡ d.about.first = ap (λ (a : About). a.first) about in
      let archived = knows.archived in
      let durable = knows.durable in
      let from = fronts.from in
      let old1 = fronts.archived in
      let old2 = fronts.durable in
      record { from = omega arith; to = sees_still seen d e knows fronts.to; archived = omega arith; durable = omega arith }

  -- so do its own entries
  pub owns_still : (next : ℕ) (d e : SeatView P) → e.about ≡ d.about → e.core.own ≡ d.core.own → KnowsMore d e → OwnsUpTo next d → OwnsUpTo next e
  owns_still next d e about own knows owns =
      let known = owns.known in
      let head = knows.head in
      record {
        rises = subst (λ (a : About). Rises a.first (positions_of e.core.own)) (sym about)
            (subst (λ (xs : List Entry). Rises d.about.first (positions_of xs)) (sym own) owns.rises);
        before = subst (λ (xs : List Entry). All (λ p. p < next) (positions_of xs)) (sym own) owns.before;
        known = omega arith;
      }

  -- and its views, where each one that was the seat's is still
  pub places_still : (shards seen : ℕ) (held : List Held) (d e : SeatView P) → ((view : AView) → IsView shards view d → IsView shards view e)
      → HasPlaces shards seen held d → HasPlaces shards seen held e
  places_still shards seen held d e stays places =
      record {
        count = places.count;
        shown = places.shown;
        views = λ k view there. stays view (places.views k view there);
        apart = places.apart;
      }

  -- so all that the session keeps goes with what the seat knows then
  pub kept_still : (shards : ℕ) (kept : Kept) (d e : SeatView P) → e.about ≡ d.about → e.core.own ≡ d.core.own → KnowsMore d e
      → ((view : AView) → IsView shards view d → IsView shards view e) → IsKept shards kept d → IsKept shards kept e
  kept_still shards kept d e about own knows stays is =
      record {
        owns = owns_still kept.next d e about own knows is.owns;
        fronts = fronts_still kept.seen d e about knows is.fronts;
        places = places_still shards kept.seen kept.held d e stays is.places;
        met = λ met. knows.flagged (is.met met);
      }

  -- as where it has gone on
  pub kept_going : (key : Key P) (kept : Kept) (d e : SeatView P) → HasGoneOn (frame_of key) d e → IsKept key.layout.shards kept d
      → IsKept key.layout.shards kept e
  kept_going key kept d e on is =
      kept_still key.layout.shards kept d e (ap (λ z. z.about) on.rest) (ap (λ z. z.core.own) on.rest) on.knows
      (λ view. view_stays_going key.layout.shards view d e (frame_of key) (shard_place key) on) is

  -- a seat that has gone on with its hand as it was owes no word and has no part, as before
  pub nothing_going : {S : Type 0} (f : Frame) (me now : Me S (SeatView P)) → HasGoneOn f me.0 now.0 → now.1 ≡ me.1 → HasNothing me → HasNothing now
  nothing_going f me now on hand nothing =
      record {
        pending = ap (λ z. z.core.pending) on.rest ∙ nothing.pending;
        notes = ap (λ z. z.stake.notes) on.rest ∙ nothing.notes;
        slots = hand ∙ nothing.slots;
      }
