-- `own_durable_as`: the step keeps the rule, and tells by what the call picks.
use Rattle.std.proofs.Common.{arith}
use mathlib.Core.Option.{none}
use Rattle.atomic_table.specs.Table.{step}
use Rattle.go_rule.specs.Meaning.{meaning}
use Rattle.go_workers.proofs.OwnFronts.{own_durable_allowed}
use Rattle.go_workers.proofs.own_fronts.own_durable_as.Goals as goal

pub load-requires : goal.load-requires
load-requires g c =
    let t = c.args.ring.now.table.shared in
    let seat = c.args.seat.now in (
      c.requires.at.0,
      (let words = c.args.ring.now.words_is in omega arith),
      own_durable_allowed (meaning g.T.Part) (record { stands_on = g.met.T.Part.stands_on; recovers_on = g.met.T.Part.recovers_on }) t.key t.table_id.slots
          seat.id seat.me c.requires.at.1 (step t.table_id.slots 2 0 0 none) g.E.Framed.frame c.requires.picked c.requires.flushes,
    )
