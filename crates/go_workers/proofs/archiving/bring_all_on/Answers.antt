-- `bring_all_on`: one shard more was brought on.
use Rattle.std.proofs.Common.{◌≡◌, ◌+◌, ◌<◌, ◌≤◌, ℕ, length, ◌∙◌, ⊎_elim, arith, subst}
use Rattle.std.specs.Prelude.{Contains}
use Rattle.std.proofs.lemmas.Bool.{cases_lt}
use Rattle.go_rule.specs.Views.{frame_of}
use Rattle.go_workers.proofs.Served.{served_further}
use Rattle.go_workers.proofs.archiving.bring_all_on.Goals as goal

pub returns-in_err-bring_place_on-clause-served : goal.returns-in_err-bring_place_on-clause-served
returns-in_err-bring_place_on-clause-served g c =
    served_further (frame_of c.args.ring.now.table.shared.key) c.args.seat.now.me c.loop-place.seat.me c.bring_place_on.new.seat.me c.loop-place.invariant.2
    c.in_err-bring_place_on.ensures.served

pub loop-place-preserved : goal.loop-place-preserved
loop-place-preserved g c =
    let inv = c.loop-place.invariant in
    let e = c.in_ok-bring_place_on.ensures in
    let place = c.loop-place.place in
    let front = c.args.from + length c.args.run.now in
    let now = c.bring_place_on.new.seat.me in
    let less = c.loop-place-test.true in (
      e.stays.0 ∙ inv.0,
      e.stays.1 ∙ inv.1,
      served_further (frame_of c.args.ring.now.table.shared.key) c.args.seat.now.me c.loop-place.seat.me now inv.2 e.served,
      λ k below.
          ⊎_elim (λ (before : k < place). e.served.turned.stood (record { place = k; front = front }) (inv.3 k before))
          (λ (from : place ≤ k).
          let same : place ≡ k = omega arith in
          subst (λ (j : ℕ). Contains now.0.stake.stood (record { place = j; front = front })) same e.stood) (cases_lt k place),
      omega arith,
    )
