-- `copy_up_to`: the last copy has come to the floor, or a look at the flag found it up.
use Rattle.std.proofs.Common.{ap, ◌∙◌}
use Rattle.atomic_table.specs.Table.{step}
use mathlib.Core.Option.{none}
use Rattle.go_rule.specs.Views.{frame_of}
use Rattle.go_ring.specs.Calls.{cause_of, flag_of}
use Rattle.go_turns.proofs.Going.{gone_further, gone_flag}
use Rattle.go_views.proofs.Copies.{gone_copied, come, flagged}
use Rattle.go_views.proofs.copying.copy_up_to.Goals as goal

pub returns-then-floor-copied-clause-comes : goal.returns-then-floor-copied-clause-comes
returns-then-floor-copied-clause-comes g c =
    let t = c.args.ring.now.table.shared in
    come (frame_of t.key) t.table_id.slots c.args.seat.now.me c.loop.seat.me c.copy-copied.new.seat.me c.loop.invariant.6 g.T.Part.state_of c.args.floor
    c.copy-copied.result c.copy-copied.new.buf c.requires.ids c.copy-copied.ensures.copies c.if-floor-copied.true

pub returns-in-Some-flag-clause-stops : goal.returns-in-Some-flag-clause-stops
returns-in-Some-flag-clause-stops g c =
    let t = c.args.ring.now.table.shared in
    let f = frame_of t.key in
    let first = c.args.seat.now.me in
    let me = c.loop.seat.me in
    let copied = c.copy-copied.new.seat.me in
    flagged f t.table_id.slots first copied c.flag.new.seat.me
    (gone_further f first.0 me.0 copied.0 c.loop.invariant.6 (gone_copied f me.0 copied.0 c.copy-copied.ensures.copies.on))
    (cause_of c.in-Some-flag.why) c.in-Some-flag.ensures.tells

pub loop-preserved : goal.loop-preserved
loop-preserved g c =
    let t = c.args.ring.now.table.shared in
    let f = frame_of t.key in
    let inv = c.loop.invariant in
    let first = c.args.seat.now.me in
    let me = c.loop.seat.me in
    let copied = c.copy-copied.new.seat.me in
    let now = c.flag.new.seat.me in
    let copies = c.copy-copied.ensures in
    let flag = c.flag.ensures in (
      tt,
      tt,
      flag.stays.0 ∙ copies.stays.0 ∙ inv.2,
      flag.stays.1 ∙ copies.stays.1 ∙ inv.3,
      ap (λ z. z.1) flag.tells.becomes ∙ copies.copies.hand ∙ inv.4,
      copies.long ∙ inv.5,
      gone_further f first.0 copied.0 now.0 (gone_further f first.0 me.0 copied.0 inv.6 (gone_copied f me.0 copied.0 copies.copies.on))
          (gone_flag f (step t.table_id.slots 3 0 0 none) copied now (flag_of c.flag.result) flag.tells),
    )
