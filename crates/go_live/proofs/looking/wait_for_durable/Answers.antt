-- `wait_for_durable`: the seat has gone on by loads of the front and of the flag.
use Rattle.std.proofs.Common.{ap, ◌∙◌}
use Rattle.atomic_table.specs.Table.{step}
use mathlib.Core.Option.{none}
use Rattle.go_rule.specs.Views.{frame_of}
use Rattle.go_ring.specs.Calls.{flag_of}
use Rattle.go_turns.proofs.Going.{gone_durable, gone_flag, gone_further}
use Rattle.go_live.proofs.looking.wait_for_durable.Goals as goal

pub returns-then-front-durable-clause-on : goal.returns-then-front-durable-clause-on
returns-then-front-durable-clause-on g c =
    let t = c.args.ring.now.table.shared in
    let f = frame_of t.key in
    gone_further f c.args.seat.now.me.0 c.loop.seat.me.0 c.durable-durable.new.seat.me.0 c.loop.invariant.5
    (gone_durable f (step t.table_id.slots 2 0 0 none) c.loop.seat.me c.durable-durable.new.seat.me c.durable-durable.result c.durable-durable.ensures.tells)

pub returns-in-Some-flag-clause-on : goal.returns-in-Some-flag-clause-on
returns-in-Some-flag-clause-on g c =
    let t = c.args.ring.now.table.shared in
    let f = frame_of t.key in
    let then = c.durable-durable.new.seat.me in
    gone_further f c.args.seat.now.me.0 then.0 c.flag.new.seat.me.0
    (gone_further f c.args.seat.now.me.0 c.loop.seat.me.0 then.0 c.loop.invariant.5
    (gone_durable f (step t.table_id.slots 2 0 0 none) c.loop.seat.me then c.durable-durable.result c.durable-durable.ensures.tells))
    (gone_flag f (step t.table_id.slots 3 0 0 none) then c.flag.new.seat.me (flag_of c.flag.result) c.flag.ensures.tells)

pub loop-preserved : goal.loop-preserved
loop-preserved g c =
    let t = c.args.ring.now.table.shared in
    let f = frame_of t.key in
    let inv = c.loop.invariant in
    let then = c.durable-durable.new.seat.me in
    let durable = c.durable-durable.ensures in
    let flag = c.flag.ensures in (
      tt,
      tt,
      flag.stays.0 ∙ durable.stays.0 ∙ inv.2,
      flag.stays.1 ∙ durable.stays.1 ∙ inv.3,
      ap (λ z. z.1) flag.tells.becomes ∙ ap (λ z. z.1) durable.tells.becomes ∙ inv.4,
      gone_further f c.args.seat.now.me.0 then.0 c.flag.new.seat.me.0
          (gone_further f c.args.seat.now.me.0 c.loop.seat.me.0 then.0 inv.5
          (gone_durable f (step t.table_id.slots 2 0 0 none) c.loop.seat.me then c.durable-durable.result durable.tells))
          (gone_flag f (step t.table_id.slots 3 0 0 none) then c.flag.new.seat.me (flag_of c.flag.result) flag.tells),
    )
