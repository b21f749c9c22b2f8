-- `shows`: the seat's views stay, and so does this one.
use Rattle.std.proofs.Common.{◌≡◌}
use Rattle.go_rule.specs.Steps.{IsAt}
use Rattle.go_views.specs.Views.{View, IsView}
use Rattle.go_rounds.proofs.looks.shows.Given as goal

abbrev pub invariant-loop-v : goal.invariant-loop-v
invariant-loop-v g l = record {
  at : IsAt l.ring.table.shared.table_id l.seat.table_id l.seat.me.0;
  vertices : l.seat.me.0.about.vertices ≡ 8;
  others : (view : View) → IsView 2 view l.fn.seat.me.0 → IsView 2 view l.seat.me.0;
}
