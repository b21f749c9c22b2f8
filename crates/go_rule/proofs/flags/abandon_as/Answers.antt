-- `abandon_as`: the step keeps the rule.
use Rattle.std.proofs.Common.{arith, subst}
use mathlib.Core.Option.{none}
use Rattle.atomic_table.specs.Table.{step, Allows}
use Rattle.go_core.specs.declared.entry.Entry.{Entry}
use Rattle.go_rule.specs.Meaning.{meaning}
use Rattle.go_rule.specs.Rule.{IsRuled}
use Rattle.go_rule.specs.Steps.{Abandons}
use Rattle.go_rule.proofs.FlagSteps.{abandon_allowed}
use Rattle.go_rule.proofs.flags.abandon_as.Goals as goal

pub load-requires : goal.load-requires
load-requires g c =
    let m = meaning g.T.Part in
    let t = c.args.ring.now.table.shared in
    let words = c.args.ring.now.words_is in
    let seat = c.args.seat.now in
    let say = step t.table_id.slots 3 0 0 none in
    let kept = abandon_allowed m (record { stands_on = g.met.T.Part.stands_on; recovers_on = g.met.T.Part.recovers_on }) t.key t.table_id.slots seat.id seat.me
    c.requires.at.1 say c.args.entry c.requires.pending c.requires.flagged
    in (
      c.requires.at.0,
      omega arith,
      subst (λ (z : Entry). Allows (IsRuled m t.key) t.table_id.slots seat.id seat.me 3 (λ n. n) (Abandons z say seat.me)) c.requires.picked kept,
    )
