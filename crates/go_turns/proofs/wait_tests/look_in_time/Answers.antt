-- `look_in_time`: the part is given back as it was taken.
use Rattle.std.proofs.Common.{ℕ, refl, sym, subst}
use Rattle.go_rule.specs.Views.{frame_of}
use Rattle.go_turns.specs.Holding.{MayGive}
use Rattle.go_turns.specs.Samples.{meaning_by}
use Rattle.go_turns.proofs.Unchanged.{may_return}
use Rattle.go_turns.proofs.wait_tests.look_in_time.Goals as goal

pub give-requires-clause-may : goal.give-requires-clause-may
give-requires-clause-may g c =
    let m = meaning_by (λ s. s) in
    let f = frame_of c.args.ring.now.table.shared.key in
    let now = c.take-hold.new.seat.me in
    let part = c.take-hold.result.part in
    let takes = c.take-hold.ensures.takes in
    subst (λ (place : ℕ). MayGive m f place part now) (sym takes.0)
    (may_return m f 0 part c.args.seat.me now now takes.1 refl refl refl (λ file gone. absurd gone))
