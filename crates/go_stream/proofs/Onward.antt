-- For callers: after an update, whatever it answered, the stream may be updated again by the same seat.
use Rattle.std.proofs.Common.{◌≡◌, ℕ, ◌≤◌, List, sym, ap, ◌∙◌, ⊎_elim, arith}
use Rattle.std.specs.Prelude.{Result, Ok, Err}
use Rattle.atomic_table.specs.Seated.{TableId}
use Rattle.atomic_table.specs.Table.{Me}
use Rattle.go_word.specs.declared.edge.Edge.{Edge}
use Rattle.go_api.specs.declared.answers.Span.{Span}
use Rattle.go_api.specs.declared.stop.Stop.{Stop}
use Rattle.go_api.specs.declared.stop.Stop.TheVariants as stops
use Rattle.go_core.specs.Frame.{Frame}
use Rattle.go_disk.specs.Device.{Device}
use Rattle.go_rule.specs.declared.view.SeatView.{SeatView}
use Rattle.go_rule.specs.Views.{with_raised}
use Rattle.go_ring.specs.Calls.{cause_of}
use Rattle.go_turns.specs.Going.{HasGoneOn, IsFlagged}
use Rattle.go_piece.specs.declared.piece.Piece.{Piece}
use Rattle.go_stream.specs.declared.wanted.Wanted.{Wanted}
use Rattle.go_stream.specs.Updates.{cursor_after, Updates, HasFailed}
use Rattle.go_stream.specs.Streaming.{CanStream}

module _ {P : Type 0} (f : Frame) (table seat now_seat : TableId) (d now : SeatView P) (cursor : ℕ) where
  -- a seat that went on may stream from where it might have
  pub still_streams : CanStream table seat d cursor → now_seat ≡ seat → HasGoneOn f d now → CanStream table now_seat now cursor
  still_streams can same on =
      let about : now.about.vertices ≡ d.about.vertices = ap (λ z. z.about.vertices) on.rest in
      let ids = can.ids in
      let seen = can.seen in
      let more = on.knows.seen in
      record { at = (same ∙ can.at.0, ap (λ z. z.core.live) on.rest ∙ can.at.1); seen = omega arith; ids = omega arith }

module _ {D S : Type 0} (device : Device D) (f : Frame) (slots : ℕ) (table seat now_seat : TableId) (me now : Me S (SeatView (Piece D))) (wanted : Wanted) where
  pub streams_on : (result : Result Span Stop) (list : List Edge) → CanStream table seat me.0 wanted.from → now_seat ≡ seat
      → Updates device f slots wanted result me now list → CanStream table now_seat now.0 (cursor_after wanted.from result)
  streams_on (Ok span) list can same one =
      let old = still_streams f table seat now_seat me.0 now.0 wanted.from can same one.on in
      let sees = one.span_is.sees in
      let to = one.span_is.to in
      let long = one.long in
      record { at = old.at; seen = omega arith; ids = old.ids }
  streams_on (Err stops.Disk) list can same one =
      ⊎_elim (λ (up : IsFlagged f slots (cause_of stops.Disk) me now). still_streams f table seat now_seat me.0 now.0 wanted.from can same up.on)
      (λ (failed : HasFailed device f me.0 now.0).
      still_streams f table seat now_seat (with_raised 1 me.0) now.0 wanted.from (record { at = can.at; seen = can.seen; ids = can.ids }) same failed.on)
      one
  streams_on (Err stops.Memory) list can same one = still_streams f table seat now_seat me.0 now.0 wanted.from can same one
