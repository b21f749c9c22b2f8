-- `compact_all`: one shard more was compacted.
use Rattle.std.proofs.Common.{◌≡◌, ◌<◌, ◌≤◌, ℕ, ◌∙◌, ⊎_elim, arith, subst}
use Rattle.std.proofs.lemmas.Bool.{cases_lt}
use Rattle.go_rule.specs.Views.{frame_of}
use Rattle.go_workers.specs.Turns.{HasCompactedAt}
use Rattle.go_workers.proofs.Served.{turned_further, compacted_later, compacted_now}
use Rattle.go_workers.proofs.compaction.compact_all.Goals as goal

pub returns-in_err-compact_place-clause-turned : goal.returns-in_err-compact_place-clause-turned
returns-in_err-compact_place-clause-turned g c =
    turned_further (frame_of c.args.ring.now.table.shared.key) c.args.seat.now.me c.loop-place.seat.me c.compact_place.new.seat.me c.loop-place.invariant.2
    c.in_err-compact_place.ensures.turned

pub loop-place-preserved : goal.loop-place-preserved
loop-place-preserved g c =
    let device = g.D.Disk.device in
    let t = c.args.ring.now.table.shared in
    let f = frame_of t.key in
    let inv = c.loop-place.invariant in
    let e = c.in_ok-compact_place.ensures in
    let place = c.loop-place.place in
    let me = c.args.seat.now.me in
    let one = c.loop-place.seat.me in
    let now = c.compact_place.new.seat.me in
    let less = c.loop-place-test.true in (
      e.stays.0 ∙ inv.0,
      e.stays.1 ∙ inv.1,
      turned_further f me one now inv.2 e.turned,
      λ k below.
          ⊎_elim (λ (before : k < place). compacted_later device f t.table_id.slots k me one now (inv.3 k before) e.turned)
          (λ (from : place ≤ k).
          let same : place ≡ k = omega arith in
          subst (λ (j : ℕ). HasCompactedAt device f t.table_id.slots j me now) same
          (compacted_now device f t.table_id.slots place me one now inv.2 e.compacted)) (cases_lt k place),
      omega arith,
    )
