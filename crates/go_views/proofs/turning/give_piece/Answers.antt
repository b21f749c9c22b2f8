-- `give_piece`: the hold that was given back has this piece and this place.
use Rattle.std.proofs.Common.{subst}
use Rattle.go_turns.specs.Holding.{Gives}
use Rattle.go_piece.specs.Meanings.{meaning_of}
use Rattle.go_views.proofs.turning.give_piece.Goals as goal

pub returns-clause-gives : goal.returns-clause-gives
returns-clause-gives g c =
    let m = meaning_of g.D.Disk.device in
    let then = c.args.seat.now.me in
    let after = c.give.new.seat.me in
    subst (λ k. Gives m k.place c.args.piece then after) c.back.ensures.key
    (subst (λ p. Gives m c.back.result.key.place p then after) c.back.ensures.part c.give.ensures.gives)
