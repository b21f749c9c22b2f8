-- `load_flag`: the step keeps the rule.
use Rattle.std.proofs.Common.{arith}
use mathlib.Core.Option.{none}
use Rattle.atomic_table.specs.Table.{step}
use Rattle.go_rule.specs.Meaning.{meaning}
use Rattle.go_rule.proofs.FlagSteps.{flag_allowed}
use Rattle.go_rule.proofs.flags.load_flag.Goals as goal

pub load-requires : goal.load-requires
load-requires g c =
    let t = c.args.ring.now.table.shared in
    let words = c.args.ring.now.words_is in
    let seat = c.args.seat.now in (
      c.requires.at.0,
      omega arith,
      flag_allowed (meaning g.T.Part)
          (record { stands_on = g.met.T.Part.stands_on; recovers_on = g.met.T.Part.recovers_on }) t.key t.table_id.slots seat.id seat.me c.requires.at.1
          (step t.table_id.slots 3 0 0 none),
    )
