-- `room`: the length was loaded, and both fronts after it.
use Rattle.std.proofs.Common.{refl, arith}
use Rattle.go_ring.proofs.ring.RingRingCalls.room.Goals as goal

pub returns-then-saturating_sub-self-clause-looks : goal.returns-then-saturating_sub-self-clause-looks
returns-then-saturating_sub-self-clause-looks g c =
    let slots = c.args.self.now.slots_is in
    let some' = c.args.self.now.some in
    let less = c.if-saturating_sub-self.true in
    let sub = c.saturating_sub.ensures in (
      c.load_head-head.result,
      c.min-released.result,
      record {
        archived = c.load_archived-archived.result;
        durable = c.load_durable-durable.result;
        after = c.load_head-head.new.seat.me;
        length_is = c.load_head-head.ensures.tells;
        fronts = record {
          between = c.load_archived-archived.new.seat.me;
          first = c.load_archived-archived.ensures.tells;
          second = c.load_durable-durable.ensures.tells;
        };
        lesser = c.min-released.ensures;
      },
      omega arith,
    )

pub returns-else-saturating_sub-self-clause-looks : goal.returns-else-saturating_sub-self-clause-looks
returns-else-saturating_sub-self-clause-looks g c =
    let slots = c.args.self.now.slots_is in
    let some' = c.args.self.now.some in
    let over = c.if-saturating_sub-self.false in
    let sub = c.saturating_sub.ensures in (
      c.load_head-head.result,
      c.min-released.result,
      record {
        archived = c.load_archived-archived.result;
        durable = c.load_durable-durable.result;
        after = c.load_head-head.new.seat.me;
        length_is = c.load_head-head.ensures.tells;
        fronts = record {
          between = c.load_archived-archived.new.seat.me;
          first = c.load_archived-archived.ensures.tells;
          second = c.load_durable-durable.ensures.tells;
        };
        lesser = c.min-released.ensures;
      },
      (refl, refl, omega arith),
    )
