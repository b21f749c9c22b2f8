-- `fill`: the seat owes its claim until it is filled, or given up.
use Rattle.std.proofs.Common.{ap, ◌∙◌}
use Rattle.go_rule.specs.Views.{frame_of}
use Rattle.go_ring.specs.Claims.{entries_in}
use Rattle.go_ring.proofs.Puts.{owed_still, stays_so, filled_remains, abandoned_remains}
use Rattle.go_bench.proofs.ring_puts.fill.Goals as goal

pub fill-requires-clause-owed : goal.fill-requires-clause-owed
fill-requires-clause-owed c =
    let inv = c.loop-left.invariant in
    owed_still c.args.claim c.loop-left.claim c.args.seat.now.me.0.core.pending c.loop-left.seat.me.0.core.pending inv.3 inv.2 c.requires.owed

pub returns-in-Done-clause-at : goal.returns-in-Done-clause-at
returns-in-Done-clause-at c =
    let inv = c.loop-left.invariant in
    let ring = c.args.ring.now.table.shared in
    let filled = filled_remains (λ s. s) (frame_of ring.key) ring.table_id.slots c.loop-left.claim c.loop-left.seat.me c.fill.new.seat.me
    c.in-Done.ensures.fills.1 in
    (c.in-Done.ensures.stays.0 ∙ inv.0 ∙ c.requires.at.0, filled.live ∙ inv.1.live ∙ c.requires.at.1)

pub returns-in-Done-clause-stays : goal.returns-in-Done-clause-stays
returns-in-Done-clause-stays c =
    let ring = c.args.ring.now.table.shared in
    stays_so c.args.seat.now.me.0 c.loop-left.seat.me.0 c.fill.new.seat.me.0 c.loop-left.invariant.1
    (filled_remains (λ s. s) (frame_of ring.key) ring.table_id.slots c.loop-left.claim c.loop-left.seat.me c.fill.new.seat.me c.in-Done.ensures.fills.1)

pub abandon-requires-clause-owed : goal.abandon-requires-clause-owed
abandon-requires-clause-owed c =
    let inv = c.loop-left.invariant in
    owed_still c.args.claim c.loop-left.claim c.args.seat.now.me.0.core.pending c.raise.new.seat.me.0.core.pending inv.3
    (ap (λ z. z.0.core.pending) c.raise.ensures.tells ∙ inv.2) c.requires.owed

pub returns-clause-at : goal.returns-clause-at
returns-clause-at c =
    let inv = c.loop-left.invariant in
    let given_up = abandoned_remains (entries_in c.loop-left.claim) c.raise.new.seat.me.0 in (
      c.abandon.ensures.stays.0 ∙ c.raise.ensures.stays.0 ∙ inv.0 ∙ c.requires.at.0,
      ap (λ z. z.0.core.live) c.abandon.ensures.given_up ∙ given_up.live ∙ ap (λ z. z.0.core.live) c.raise.ensures.tells ∙ inv.1.live ∙ c.requires.at.1,
    )

pub returns-clause-stays : goal.returns-clause-stays
returns-clause-stays c =
    let given_up = abandoned_remains (entries_in c.loop-left.claim) c.raise.new.seat.me.0 in
    let tells = c.raise.ensures.tells in
    let last = c.abandon.ensures.given_up in
    stays_so c.args.seat.now.me.0 c.loop-left.seat.me.0 c.abandon.new.seat.me.0 c.loop-left.invariant.1
    (record {
      live = ap (λ z. z.0.core.live) last ∙ given_up.live ∙ ap (λ z. z.0.core.live) tells;
      share = ap (λ z. z.0.share) last ∙ given_up.share ∙ ap (λ z. z.0.share) tells;
      stake = ap (λ z. z.0.stake) last ∙ given_up.stake ∙ ap (λ z. z.0.stake) tells;
    })
