-- What a seat shares out among threads that put.
use Rattle.std.specs.Prelude.{ℕ, ◌≤◌}
use Rattle.atomic_table.specs.Seated.{TableId}
use Rattle.go_rule.specs.declared.view.SeatView.{SeatView}
use Rattle.go_ring.specs.Samples.{MayPut}

-- a seat of the ring may put so many entries, and is enough for so many seats
pub record MayShare {P : Type 0} (most seats : ℕ) (table seat : TableId) (d : SeatView P) : Type 0 where
  pub may : MayPut most table seat d
  pub lot : seats ≤ d.share.lot
