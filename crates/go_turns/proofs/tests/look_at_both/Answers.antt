-- `look_at_both`: both parts are given back as they were taken, the first one after the second.
use Rattle.std.proofs.Common.{◌≡◌, ℕ, sym, ap, ◌∙◌, subst}
use Rattle.go_rule.specs.Views.{frame_of}
use Rattle.go_turns.specs.Holding.{Holds, MayGive}
use Rattle.go_turns.specs.Samples.{meaning_by}
use Rattle.go_turns.proofs.Handing.{refused, holds_on, view_is}
use Rattle.go_turns.proofs.Unchanged.{may_return}
use Rattle.go_turns.proofs.tests.look_at_both.Goals as goal

pub give-requires-clause-may : goal.give-requires-clause-may
give-requires-clause-may c =
    let m = meaning_by (λ s. s) in
    let t = c.args.ring.now.table.shared in
    let f = frame_of t.key in
    let now = c.try_take.new.seat.me in
    let then = c.try_take-2.new.seat.me in
    let part = c.in_ok-first.first.part in
    let tries = c.in_ok-first.ensures.tries in
    let still = refused m f t.table_id.slots c.args.two now then c.in_default.ensures.tries in
    subst (λ (place : ℕ). MayGive m f place part then) (sym tries.0)
    (may_return m f c.args.one part c.args.seat.now.me now then tries.1 (ap (λ z. z.0.stake.notes) still) (ap (λ z. z.1) still)
    (ap (λ z. z.0.about) still) (λ file gone. absurd gone))

pub give-requires-2-clause-may : goal.give-requires-2-clause-may
give-requires-2-clause-may c =
    let m = meaning_by (λ s. s) in
    let f = frame_of c.args.ring.now.table.shared.key in
    let now = c.try_take-2.new.seat.me in
    let then = c.load_head.new.seat.me in
    let second = c.in-Some.second in
    let tries = c.in-Some.ensures.tries in
    let loads = c.load_head.ensures.tells.becomes in
    let key : c.back.result.key.place ≡ c.args.two = ap (λ k. k.place) (c.back.ensures.key ∙ c.lift-part.ensures.key) ∙ tries.0 in
    let part : c.back.result.part ≡ second.part = c.back.ensures.part ∙ c.lift-part.ensures.part in
    subst (λ (place : ℕ). MayGive m f place c.back.result.part then) (sym key)
    (subst (λ p. MayGive m f c.args.two p then) (sym part)
    (may_return m f c.args.two second.part c.try_take.new.seat.me now then tries.1 (ap (λ z. z.0.stake.notes) loads) (ap (λ z. z.1) loads)
    (ap (λ z. z.0.about) loads) (λ file gone. absurd gone)))

pub give-requires-3-clause-may : goal.give-requires-3-clause-may
give-requires-3-clause-may c =
    let m = meaning_by (λ s. s) in
    let f = frame_of c.args.ring.now.table.shared.key in
    let now = c.try_take.new.seat.me in
    let with_both = c.try_take-2.new.seat.me in
    let then = c.load_head.new.seat.me in
    let last = c.give-2.new.seat.me in
    let part = c.in_ok-first.first.part in
    let second = c.in-Some.second in
    let tries = c.in_ok-first.ensures.tries in
    let tries_second = c.in-Some.ensures.tries in
    let loads = c.load_head.ensures.tells.becomes in
    let key : c.back.result.key.place ≡ c.args.two = ap (λ k. k.place) (c.back.ensures.key ∙ c.lift-part.ensures.key) ∙ tries_second.0 in
    let holds : Holds c.back.result.key.place second.part now.0.stake.notes now.1 then =
    subst (λ (place : ℕ). Holds place second.part now.0.stake.notes now.1 then) (sym key)
    (holds_on c.args.two second.part now.0.stake.notes now.1 with_both then (ap (λ z. z.0.stake.notes) loads) (ap (λ z. z.1) loads) tries_second.1.holds)
    in
    let given = c.give-2.ensures.gives second.part now.0.stake.notes now.1 holds in
    let about : last.0.about ≡ now.0.about =
    ap (λ z. z.0.about) given ∙ ap (λ z. z.0.about) loads ∙ ap (λ d. d.about) (view_is m f c.args.two second.part now with_both tries_second.1)
    in
    subst (λ (place : ℕ). MayGive m f place part last) (sym tries.0)
    (may_return m f c.args.one part c.args.seat.now.me now last tries.1 (ap (λ z. z.0.stake.notes) given) (ap (λ z. z.1) given) about
    (λ file gone. absurd gone))
