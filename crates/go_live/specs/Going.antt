-- What each call of a handle leaves, whatever it answers.
use Rattle.std.specs.Prelude.{◌≡◌, ℕ, true}
use Rattle.go_rule.specs.declared.view.SeatView.{SeatView}
use Rattle.go_live.specs.declared.handle.Handle.{Handle}

module _ {P : Type 0} where
  -- a seat has its share of the lot and what was joined into it, it heard no more, and where it saw the flag raised it did; it raised no want of memory
  pub record Serves (before after : SeatView P) : Type 0 where
    pub about : after.about ≡ before.about
    pub lot : after.share.lot ≡ before.share.lot
    pub joined : after.core.joined ≡ before.core.joined
    pub heard : after.told.heard ≡ before.told.heard
    pub flagged : before.told.flagged ≡ true → after.told.flagged ≡ true
    pub memory : after.core.memory_raised ≡ before.core.memory_raised

-- a handle serves on by the seat that it has
pub record ServesOn {D : Type 0} (before after : Handle D) : Type 0 where
  pub table : after.seat.table_id ≡ before.seat.table_id
  pub id : after.seat.id ≡ before.seat.id
  pub serves : Serves before.seat.me.0 after.seat.me.0
