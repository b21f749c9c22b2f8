-- What a seat needs for streaming.
use Rattle.std.specs.Prelude.{ℕ, ◌≤◌}
use Rattle.atomic_table.specs.Seated.{TableId}
use Rattle.go_word.specs.declared.word.TheConstants.{ID_LIMIT}
use Rattle.go_rule.specs.declared.view.SeatView.{SeatView}
use Rattle.go_rule.specs.Steps.{IsAt}

-- a seat of a ring may stream from a position on
pub record CanStream {P : Type 0} (table seat : TableId) (d : SeatView P) (cursor : ℕ) : Type 0 where
  pub at : IsAt table seat d
  pub seen : cursor ≤ d.core.seen
  pub ids : d.about.vertices ≤ ID_LIMIT
