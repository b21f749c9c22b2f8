-- `give_turn_as`: the step keeps the rule, and tells of the place that the call picks.
use Rattle.std.proofs.Common.{ℕ, ◌+◌, arith, subst}
use mathlib.Core.Option.{none}
use Rattle.atomic_table.specs.Table.{step, Allows}
use Rattle.go_rule.specs.Meaning.{meaning}
use Rattle.go_rule.specs.Rule.{IsRuled}
use Rattle.go_rule.specs.Turns.{GivesTurn}
use Rattle.go_rule.proofs.TurnGives.{give_allowed}
use Rattle.go_rule.proofs.turns.give_turn_as.Goals as goal

pub store-requires : goal.store-requires
store-requires g c =
    let m = meaning g.T.Part in
    let ring = c.args.ring.now in
    let t = ring.table.shared in
    let shards = ring.shards_is in
    let few = c.requires.within in
    let seat = c.args.seat.now in
    let say = step t.table_id.slots (4 + c.args.place) 0 0 none in (
      c.requires.at_ring.0,
      (let words = ring.words_is in omega arith),
      subst (λ (p : ℕ). Allows (IsRuled m t.key) t.table_id.slots seat.id seat.me (4 + c.args.place) (λ _. 0) (λ _. GivesTurn m p say seat.me 0))
          c.requires.picked
          (give_allowed m (record { stands_on = g.met.T.Part.stands_on; recovers_on = g.met.T.Part.recovers_on }) t.key t.table_id.slots seat.id
          (let parts = ring.parts_is in omega arith) seat.me c.requires.at_ring.1 say c.args.place (omega arith) c.requires.has),
    )
