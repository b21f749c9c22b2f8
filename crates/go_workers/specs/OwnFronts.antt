-- What a worker is told of the front that it moves.
use Rattle.std.specs.Prelude.{◌≡◌, ℕ, ◌≤◌}
use Rattle.atomic_table.specs.Table.{Step, Me}
use Rattle.go_core.specs.declared.part.PartState.{PartState}
use Rattle.go_core.specs.Frame.{Frame}
use Rattle.go_rule.specs.declared.view.SeatView.{SeatView}
use Rattle.go_rule.specs.Steps.{LoadsArchived, LoadsDurable}

-- a front is as its worker knows it, and no further than what that took
pub record IsOwn (known taken n : ℕ) : Type 0 where
  pub known_is : n ≡ known
  pub taken_to : n ≤ taken

module _ {P S : Type 0} where
  -- the archived front was loaded by the seat that moves it
  pub record LoadsOwnArchived (state_of : P → PartState) (f : Frame) (step : Step S) (me : Me S (SeatView P)) (n : ℕ) (now : Me S (SeatView P)) : Type 0 where
    pub loads : LoadsArchived state_of f step me n now
    pub own : IsOwn me.0.core.archived me.0.core.taken n

  -- the durable front was
  pub record LoadsOwnDurable (f : Frame) (step : Step S) (me : Me S (SeatView P)) (n : ℕ) (now : Me S (SeatView P)) : Type 0 where
    pub loads : LoadsDurable f step me n now
    pub own : IsOwn me.0.core.durable me.0.core.taken n
