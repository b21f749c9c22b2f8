-- What is gathered for a view whose pins are put in: its fronts, its counts and its later words.
use Rattle.std.specs.Prelude.{◌≡◌, ℕ, ◌≤◌, List, length}
use Rattle.atomic_table.specs.Table.{Me}
use Rattle.go_api.specs.declared.stop.Stop.{Stop}
use Rattle.go_api.specs.declared.stop.Stop.TheVariants.{Disk, Memory}
use Rattle.go_core.specs.Frame.{Frame}
use Rattle.go_rule.specs.declared.view.SeatView.{SeatView}
use Rattle.go_ring.specs.Calls.{cause_of}
use Rattle.go_turns.specs.Going.{HasGoneOn, IsFlagged}
use Rattle.go_views.specs.Pins.{HasSettledEach}
use Rattle.go_views.specs.Views.{View, IsWhole, Shows}

module _ {P : Type 0} where
  -- a seat copied the ring, and settled the pins of a view, which tells of what it has seen by then, up to the floor and to what it had seen
  pub record HasGathered (f : Frame) (floor : ℕ) (view : View) (d now : SeatView P) : Type 0 where
    pub then : SeatView P
    pub on : HasGoneOn f d then
    pub settled : HasSettledEach f (length view.names) view.names view.archived then now
    pub shows : Shows now.about.vertices now.told.seen view
    pub whole : IsWhole view
    pub floor_to : floor ≤ view.front
    pub seen_before : d.core.seen ≤ view.front
    pub long : length now.told.seen ≡ now.core.seen

  module _ {S : Type 0} where
    -- a seat went on until it was stopped: for the disk, that a load of the flag gave this
    abbrev pub Stops : Frame → ℕ → Me S (SeatView P) → Stop → Me S (SeatView P) → Type 0
    Stops f slots me Disk now = IsFlagged f slots (cause_of Disk) me now
    Stops f slots me Memory now = HasGoneOn f me.0 now.0

    -- it was stopped, and had settled the first ones of the pins of these names
    pub record IsStopped (f : Frame) (slots : ℕ) (names : List ℕ) (why : Stop) (me now : Me S (SeatView P)) : Type 0 where
      pub then : Me S (SeatView P)
      pub stops : Stops f slots me why then
      pub upto : ℕ
      pub front : ℕ
      pub within : upto ≤ length names
      pub settled : HasSettledEach f upto names front then.0 now.0
