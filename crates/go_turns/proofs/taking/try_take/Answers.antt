-- `try_take`: a part that came with its turn lies in its slot, and is taken out of it.
use Rattle.std.proofs.Common.{ℕ, ◌+◌, ◌∙◌, arith, subst}
use mathlib.Core.Option.{none}
use Rattle.atomic_table.specs.Table.{step}
use Rattle.go_rule.specs.Meaning.{meaning}
use Rattle.go_rule.specs.Views.{frame_of}
use Rattle.go_rule.specs.Turns.{TakesTurn}
use Rattle.go_rule.proofs.TurnCalls.{lies_in}
use Rattle.go_turns.proofs.taking.try_take.Goals as goal

pub exchange-requires : goal.exchange-requires
exchange-requires g c =
    let m = meaning g.T.Part in
    let t = c.args.ring.now.table.shared in
    let f = frame_of t.key in
    let me = c.args.seat.now.me in
    let found = c.take_turn.result in
    let now = c.take_turn.new.seat.me in
    let tells = subst (λ (place : ℕ). TakesTurn m f place (step t.table_id.slots (4 + place) 1 0 none) me found now) c.from.ensures c.take_turn.ensures.tells in
    (c.take_turn.ensures.stays.0 ∙ c.requires.at.0, lies_in m f c.args.place me found now tells (omega arith))
