-- What a handle stands for between its calls is sound.
use Rattle.std.proofs.Common.{◌≡◌, ℕ, ◌<◌, ◌≤◌, List, length, take, map, sym, ap, ◌∙◌, arith}
use Rattle.std.specs.Prelude.{All}
use Rattle.std.proofs.lemmas.List.{length-map, length-take-le}
use Rattle.std.proofs.lemmas.List.Elements.{All-take, All-weaker}
use Rattle.atomic_table.specs.Seated.{TableId}
use Rattle.go_word.specs.declared.edge.Edge.{Edge}
use Rattle.go_word.specs.Log.{IsWithin}
use Rattle.go_api.specs.Standing.{IsSound}
use Rattle.go_core.specs.declared.entry.Entry.{Entry}
use Rattle.go_rule.specs.declared.layout.Key.{Key}
use Rattle.go_rule.specs.declared.view.SeatView.{SeatView}
use Rattle.go_rule.specs.Rule.{IsBelow}
use Rattle.go_piece.specs.declared.piece.Piece.{Piece}
use Rattle.go_live.specs.declared.handle.Handle.{Handle}
use Rattle.go_live.specs.Handles.{IsHandle, IsKept, KnowsLog, kept_of, stands_in}
use Rattle.go_live.specs.Standings.{Kept, place_of, positions_of, edges_of, standing_of}

-- entries between vertices, in either words
ids_below : (vertices : ℕ) (log : List Edge) → All (IsBelow vertices) log → All (IsWithin vertices) log
ids_below vertices log all = All-weaker (IsBelow vertices) (IsWithin vertices) (λ e is. record { source = is.src; destination = is.dst }) log all

-- what is below a number is below a greater one
pub below_greater : (n m : ℕ) (own : List ℕ) → n ≤ m → All (λ p. p < n) own → All (λ p. p < m) own
below_greater n m own le all = All-weaker (λ p. p < n) (λ p. p < m) (λ p less. omega arith) own all

module _ {P : Type 0} (slots shards : ℕ) (kept : Kept) (d : SeatView P) where
  -- what a session keeps and knows makes a sound standing
  pub stands_sound : IsKept shards kept d → KnowsLog kept.seen d → IsSound (standing_of slots kept d)
  stands_sound is knows =
      let long = length-take-le kept.seen d.told.seen is.fronts.to.there in
      let head = knows.head in
      let small = knows.small in
      let from = is.fronts.from in
      let own : List ℕ = positions_of d.core.own in
      record {
        sees = record {
          old_seen = from;
          floor_seen = omega arith;
          seen_known = omega arith;
          short = omega arith;
          ids = All-take (IsWithin d.about.vertices) kept.seen d.told.seen (ids_below d.about.vertices d.told.seen knows.below);
        };
        owns = record {
          rises = is.owns.rises;
          known = below_greater kept.next d.core.head own is.owns.known is.owns.before;
          put = length-map d.core.own (λ (x : Entry). x.at) ∙ sym (length-map d.core.own (λ (x : Entry). x.edge));
        };
        count = length-map kept.held place_of ∙ is.places.count;
        shown = is.places.shown;
      }

-- so does a handle
pub handle_sound : {D : Type 0} (table : TableId) (key : Key (Piece D)) (h : Handle D) → IsHandle table key h → IsSound (stands_in key h)
handle_sound table key h is = stands_sound key.layout.ring key.layout.shards (kept_of h) h.seat.me.0 is.steady.kept is.knows
