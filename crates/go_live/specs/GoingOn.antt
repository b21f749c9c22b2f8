-- A live store goes on: from itself, and over calls one after another.
use Rattle.std.proofs.Common.{refl, ◌∙◌}
use Rattle.go_rule.specs.declared.view.SeatView.{SeatView}
use Rattle.go_live.specs.declared.handle.Handle.{Handle}
use Rattle.go_live.specs.Going.{Serves, ServesOn}
use Rattle.go_live.specs.Live.{LiveState, GoesOn}

-- a seat that did nothing serves, and one that serves twice
pub serves_same : {P : Type 0} (d : SeatView P) → Serves d d
serves_same d = record { about = refl; lot = refl; joined = refl; heard = refl; flagged = λ is. is; memory = refl }

pub serves_onwards : {P : Type 0} (d e g : SeatView P) → Serves d e → Serves e g → Serves d g
serves_onwards d e g one two = record {
  about = two.about ∙ one.about;
  lot = two.lot ∙ one.lot;
  joined = two.joined ∙ one.joined;
  heard = two.heard ∙ one.heard;
  flagged = λ is. two.flagged (one.flagged is);
  memory = two.memory ∙ one.memory;
}

-- a handle that serves on twice
pub served_on : {D : Type 0} (one two three : Handle D) → ServesOn one two → ServesOn two three → ServesOn one three
served_on one two three first later = record {
  table = later.table ∙ first.table;
  id = later.id ∙ first.id;
  serves = serves_onwards one.seat.me.0 two.seat.me.0 three.seat.me.0 first.serves later.serves;
}

module _ {D : Type 0} where
  -- without a call
  pub goes_on_same : (store : LiveState D) → GoesOn store store
  goes_on_same store = record { table = refl; key = refl; serves = record { table = refl; id = refl; serves = serves_same store.handle.seat.me.0 } }

  -- some calls, and then some more
  pub goes_on_onwards : (one two three : LiveState D) → GoesOn one two → GoesOn two three → GoesOn one three
  goes_on_onwards one two three first later = record {
    table = later.table ∙ first.table;
    key = later.key ∙ first.key;
    serves = served_on one.handle two.handle three.handle first.serves later.serves;
  }
