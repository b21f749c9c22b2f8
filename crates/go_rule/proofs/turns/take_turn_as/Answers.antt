-- `take_turn_as`: the step keeps the rule, and tells by what the call picks.
use Rattle.std.proofs.Common.{ℕ, ◌+◌, arith, subst}
use mathlib.Core.Option.{none}
use Rattle.atomic_table.specs.Table.{step, Allows}
use Rattle.go_core.specs.Frame.{Frame}
use Rattle.go_rule.specs.Meaning.{meaning}
use Rattle.go_rule.specs.Views.{frame_of}
use Rattle.go_rule.specs.Rule.{IsRuled}
use Rattle.go_rule.specs.Turns.{TakesTurn}
use Rattle.go_rule.proofs.TurnTakes.{take_allowed}
use Rattle.go_rule.proofs.turns.take_turn_as.Goals as goal

pub swap-requires : goal.swap-requires
swap-requires g c =
    let ring = c.args.ring.now in
    let shards = ring.shards_is in
    let few = c.requires.within in
    let t = ring.table.shared in
    let seat = c.args.seat.now in
    let m = meaning g.T.Part in
    let say = step t.table_id.slots (4 + c.args.place) 1 0 none in
    let told = λ (f : Frame) (p : ℕ). Allows (IsRuled m t.key) t.table_id.slots seat.id seat.me (4 + c.args.place) (λ _. 1) (TakesTurn m f p say seat.me) in (
      c.requires.at_ring.0,
      (let words = ring.words_is in omega arith),
      subst (λ f. told f g.E.Turn.place) c.requires.picked.0
          (subst (told (frame_of t.key)) c.requires.picked.1
          (take_allowed m (record { stands_on = g.met.T.Part.stands_on; recovers_on = g.met.T.Part.recovers_on }) t.key t.table_id.slots seat.id seat.me
          c.requires.at_ring.1 say c.args.place (omega arith))),
    )
