-- What a live store is, and what its calls leave of it.
use Rattle.std.specs.Prelude.{◌≡◌}
use Rattle.atomic_table.specs.Seated.{TableId}
use Rattle.atomic_table.specs.declared.shared.Seat.{Seat}
use Rattle.std.specs.Prelude.{Option as Maybe}
use Rattle.go_api.specs.Standing.{Standing}
use Rattle.go_rule.specs.declared.layout.Key.{Key}
use Rattle.go_rule.specs.declared.view.SeatView.{SeatView}
use Rattle.go_piece.specs.declared.piece.Piece.{Piece}
use Rattle.go_live.specs.declared.handle.Handle.{Handle}
use Rattle.go_live.specs.Going.{ServesOn}
use Rattle.go_live.specs.Handles.{HasBegun, IsHandle, stands_in}

-- a handle, with the table that its ring lies over and how that was made
pub record LiveState (D : Type 0) : Type 0 where
  pub table : TableId
  pub key : Key (Piece D)
  pub handle : Handle D

module _ {D : Type 0} where
  -- what a store stands for
  abbrev pub state_of : LiveState D → Standing
  state_of store = stands_in store.key store.handle

  -- a store is still over its ring, and its handle serves on by its seat
  pub record GoesOn (before after : LiveState D) : Type 0 where
    pub table : after.table ≡ before.table
    pub key : after.key ≡ before.key
    pub serves : ServesOn before.handle after.handle

  -- a store was opened over a ring by a new seat
  pub record HasOpened (table : TableId) (key : Key (Piece D)) (seat : Seat (Maybe (Piece D)) (SeatView (Piece D))) (store : LiveState D) : Type 0 where
    pub table_is : store.table ≡ table
    pub key_is : store.key ≡ key
    pub begun : HasBegun key seat store.handle

  -- a store whose seat is given back stood as one between its calls
  abbrev pub HasLeft : LiveState D → Type 0
  HasLeft store = IsHandle store.table store.key store.handle
