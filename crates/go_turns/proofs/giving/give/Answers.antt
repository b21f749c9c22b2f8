-- `give`: the part that lies in its slot again goes back with its turn.
use Rattle.std.proofs.Common.{ℕ, subst}
use Rattle.go_rule.specs.Meaning.{meaning}
use Rattle.go_rule.specs.Turns.{GivesPart}
use Rattle.go_turns.proofs.Handing.{given_back}
use Rattle.go_turns.proofs.giving.give.Goals as goal

pub returns-clause-gives : goal.returns-clause-gives
returns-clause-gives g c =
    let m = meaning g.T.Part in
    let hold = c.args.hold in
    let then = c.exchange.new.seat.me in
    let now = c.give_turn.new.seat.me in
    given_back m hold.key.place hold.part c.args.seat.now.me then now c.exchange.ensures.3
    (subst (λ (place : ℕ). GivesPart m place then now) c.from.ensures c.give_turn.ensures.tells)
