-- `take_once`: the part is given back as it was taken.
use Rattle.std.proofs.Common.{ℕ, refl, sym, subst}
use Rattle.go_rule.specs.Views.{frame_of}
use Rattle.go_turns.specs.Holding.{MayGive}
use Rattle.go_turns.specs.Samples.{meaning_by}
use Rattle.go_turns.proofs.Unchanged.{may_return}
use Rattle.go_bench.proofs.turns.take_once.Goals as goal

pub give-requires-clause-may : goal.give-requires-clause-may
give-requires-clause-may c =
    let m = meaning_by (λ s. s) in
    let f = frame_of c.args.ring.now.table.shared.key in
    let now = c.try_take.new.seat.me in
    let part = c.in-Some.hold.part in
    let tries = c.in-Some.ensures.tries in
    subst (λ (place : ℕ). MayGive m f place part now) (sym tries.0)
    (may_return m f 0 part c.args.seat.now.me now now tries.1 refl refl refl (λ file gone. absurd gone))
