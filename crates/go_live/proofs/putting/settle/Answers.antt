-- `settle`: a fill tells that the claim's words stand or that it is held; the flag lets it be given up.
use Rattle.std.proofs.Common.{refl, sym, ap, ◌∙◌, subst, ◌≡◌, List}
use Rattle.std.specs.Prelude.{All}
use Rattle.atomic_table.specs.Table.{step}
use mathlib.Core.Option.{none}
use Rattle.go_word.specs.Word.{IsStorable}
use Rattle.go_rule.specs.Views.{frame_of}
use Rattle.go_rule.specs.Views.{with_abandoned}
use Rattle.go_ring.specs.declared.claim.Claim.{Claim}
use Rattle.go_ring.specs.Calls.{flag_of, for_each}
use Rattle.go_ring.specs.Claims.{entries_in}
use Rattle.go_live.specs.Putting.{IsFilled}
use Rattle.go_live.proofs.SeatLooks.{filled, filled_hand, fronts_hand, looks_flag, looks_fronts, looks_further, owed_itself, saw_flag}
use Rattle.go_live.proofs.putting.settle.Goals as goal

pub fill-requires-clause-at : goal.fill-requires-clause-at
fill-requires-clause-at g c =
    let inv = c.loop.invariant in
    (inv.2 ∙ c.requires.at.0, ap (λ z. z.core.live) inv.6.rest ∙ c.requires.at.1)

pub fill-requires-clause-owed : goal.fill-requires-clause-owed
fill-requires-clause-owed g c =
    let inv = c.loop.invariant in
    owed_itself c.loop.seat.me.0.core.pending (entries_in c.loop.held)
    (ap (λ z. z.core.pending) inv.6.rest ∙ c.requires.owed ∙ sym (ap entries_in inv.5))

pub fill-requires-clause-storable : goal.fill-requires-clause-storable
fill-requires-clause-storable g c = rw c.loop.invariant.5 c.requires.storable

pub returns-in-Done-clause-settles : goal.returns-in-Done-clause-settles
returns-in-Done-clause-settles g c =
    let t = c.args.ring.now.table.shared in
    let inv = c.loop.invariant in
    let d = c.args.seat.now.me.0 in
    let now = c.fill.new.seat.me in
    let fills = c.in-Done.ensures.fills in (
      fills.0 ∙ ap (λ k. k.first) inv.5,
      subst (λ (k : Claim). IsFilled (entries_in k) d now.0) inv.5
          (filled (frame_of t.key) g.T.Part.state_of t.table_id.slots c.loop.held d c.loop.seat.me now inv.6 fills.1),
    )

pub abandon-requires-clause-owed : goal.abandon-requires-clause-owed
abandon-requires-clause-owed g c =
    let t = c.args.ring.now.table.shared in
    let f = frame_of t.key in
    let inv = c.loop.invariant in
    let d = c.args.seat.now.me.0 in
    let fill = c.fill.new.seat.me in
    let flag = c.flag.new.seat.me in
    let held = c.in-Held.ensures.fills in
    let on = looks_further d fill.0 flag.0
    (looks_further d c.loop.seat.me.0 fill.0 inv.6
    (looks_fronts f g.T.Part.state_of t.table_id.slots c.loop.seat.me fill held.1.archived held.1.durable held.1.fronts))
    (looks_flag f (step t.table_id.slots 3 0 0 none) fill flag (flag_of c.flag.result) c.flag.ensures.tells)
    in
    owed_itself flag.0.core.pending (entries_in c.in-Held.claim)
    (ap (λ z. z.core.pending) on.rest ∙ c.requires.owed ∙ sym (ap entries_in (held.0 ∙ inv.5)))

pub returns-in-Some-flag-clause-settles : goal.returns-in-Some-flag-clause-settles
returns-in-Some-flag-clause-settles g c =
    let t = c.args.ring.now.table.shared in
    let f = frame_of t.key in
    let inv = c.loop.invariant in
    let d = c.args.seat.now.me.0 in
    let fill = c.fill.new.seat.me in
    let flag = c.flag.new.seat.me in
    let held = c.in-Held.ensures.fills in
    let on = looks_further d fill.0 flag.0
    (looks_further d c.loop.seat.me.0 fill.0 inv.6
    (looks_fronts f g.T.Part.state_of t.table_id.slots c.loop.seat.me fill held.1.archived held.1.durable held.1.fronts))
    (looks_flag f (step t.table_id.slots 3 0 0 none) fill flag (flag_of c.flag.result) c.flag.ensures.tells)
    in
    record {
      between = flag.0;
      on = on;
      flagged = saw_flag (step t.table_id.slots 3 0 0 none) fill flag c.in-Some-flag.why c.in-Some-flag.ensures.tells;
      becomes = ap (λ z. z.0) c.abandon.ensures.given_up
          ∙ ap (λ (k : Claim). for_each with_abandoned (entries_in k) flag.0) (held.0 ∙ inv.5);
    }
