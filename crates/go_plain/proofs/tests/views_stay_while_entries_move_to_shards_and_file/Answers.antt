-- What the reading in `views_stay_while_entries_move_to_shards_and_file` needs.
use Rattle.std.proofs.Common.{List, set, slice_get, ap, ◌∙◌, arith}
use Rattle.go_api.specs.declared.place.Place.{Place}
use Rattle.go_api.specs.declared.place.Place.TheVariants.{View}
use Rattle.go_api.proofs.StandingLemmas.{same_vertices}
use Rattle.go_plain.specs.Plain.{PlainState}
use Rattle.go_plain.specs.Seats.{seat_at}
use Rattle.go_plain.specs.declared.seat.Seat.{Seat}
use Rattle.go_plain.proofs.tests.views_stay_while_entries_move_to_shards_and_file.Goals as goal

pub neighbours-requires : goal.neighbours-requires
neighbours-requires g c =
    let first = c.in-Ok.ensures.puts in
    let view = c.in-Ok-view.ensures.views in
    let second = c.in-Ok-put.ensures.puts in
    let made = ap (λ n. (seat_at c.session-session.result.store.seats n).places) c.session-session.ensures.number
    ∙ ap (λ (s : PlainState _). (seat_at s.seats 1).places) c.session-session.ensures.store
    ∙ ap (λ (l : List Seat). (seat_at l 1).places) c.in-Some.ensures.seats in
    let places = second.put.same_places ∙ view.holds.placed ∙ ap (λ (l : List Place). set l 0 (View c.in-Ok-view.front)) (first.put.same_places ∙ made) in
    let vertices = same_vertices second.put.onward ∙ same_vertices view.holds.onward ∙ same_vertices first.put.onward
    ∙ ap (λ (s : PlainState _). s.origin.vertices) c.session-session.ensures.store ∙ c.in-Some.ensures.vertices in
    record {
      front = c.in-Ok-view.front;
      held = ap (λ (l : List Place). slice_get l 0) places;
      there = omega (arith, vertices);
    }
