-- `take`: what the try that gave the part tells, it tells of the seat as it was at first.
use Rattle.std.proofs.Common.{⊎_elim, subst}
use Rattle.go_rule.specs.Meaning.{meaning}
use Rattle.go_rule.specs.Views.{frame_of}
use Rattle.go_turns.specs.Holding.{Takes}
use Rattle.go_turns.proofs.Handing.{takes_before}
use Rattle.go_turns.proofs.taking.take.Goals as goal

pub returns-in-Some-try_take-clause-takes : goal.returns-in-Some-try_take-clause-takes
returns-in-Some-try_take-clause-takes g c =
    let m = meaning g.T.Part in
    let f = frame_of c.args.ring.now.table.shared.key in
    let me = c.args.seat.now.me in
    let before = c.loop.seat.me in
    let now = c.try_take.new.seat.me in
    let part = c.in-Some-try_take.hold.part in
    let tries = c.in-Some-try_take.ensures.tries in (
      tries.0,
      ⊎_elim (λ same. subst (λ b. Takes m f c.args.place part b now) same tries.1)
          (λ told_nothing. takes_before m f c.args.place part me before now told_nothing tries.1) c.loop.invariant.4,
    )
