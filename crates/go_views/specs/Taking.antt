-- What taking a view comes to.
use Rattle.std.specs.Prelude.{ℕ, ◌≤◌, Result, Ok, Err}
use Rattle.atomic_table.specs.Table.{Me}
use Rattle.go_api.specs.declared.stop.Stop.{Stop}
use Rattle.go_api.specs.declared.stop.Stop.TheVariants.{Disk, Memory}
use Rattle.go_core.specs.Frame.{Frame}
use Rattle.go_rule.specs.declared.view.SeatView.{SeatView}
use Rattle.go_ring.specs.Calls.{cause_of}
use Rattle.go_turns.specs.Going.{HasGoneOn, IsFlagged}
use Rattle.go_views.specs.Pins.{HasGained, pin_of, HasTurnedEach}
use Rattle.go_views.specs.Views.{View, IsView}

module _ {P : Type 0} where
  -- a view was taken of a log that has come to the floor, and of all that its seat had seen; in each shard the seat has its pin more
  pub record HasTaken (f : Frame) (shards floor : ℕ) (view : View) (d now : SeatView P) : Type 0 where
    pub is : IsView shards view now
    pub floor_to : floor ≤ view.front
    pub seen_before : d.core.seen ≤ view.front
    pub pins : HasTurnedEach f shards (λ place. HasGained (pin_of view.names view.archived place)) d now

  -- a view was taken, or refused: for the disk, that a load of the flag gave this; either way the seat has no pin more
  abbrev pub Takes : {S : Type 0} → Frame → ℕ → ℕ → ℕ → Me S (SeatView P) → Result View Stop → Me S (SeatView P) → Type 0
  Takes f slots shards floor me (Ok view) now = HasTaken f shards floor view me.0 now.0
  Takes f slots shards floor me (Err Disk) now = IsFlagged f slots (cause_of Disk) me now
  Takes f slots shards floor me (Err Memory) now = HasGoneOn f me.0 now.0
