-- `claim_as`: the step keeps the rule.
use Rattle.std.proofs.Common.{◌≤◌, All, length, ap, arith, subst}
use Rattle.go_word.specs.Word.{IsStorable}
use mathlib.Core.Option.{none}
use Rattle.atomic_table.specs.Table.{step}
use Rattle.go_rule.specs.Meaning.{meaning}
use Rattle.go_rule.specs.Rule.{IsBelow}
use Rattle.go_rule.proofs.WordSteps.{claim_allowed}
use Rattle.go_rule.proofs.steps.claim_as.Goals as goal

pub fetch_add-requires : goal.fetch_add-requires
fetch_add-requires g c =
    let t = c.args.ring.now.table.shared in
    let words = c.args.ring.now.words_is in
    let seat = c.args.seat.now in
    let es = g.E.Edges.edges in
    let picked = c.requires.picked in (
      c.requires.at.0,
      omega arith,
      claim_allowed (meaning g.T.Part)
          (record { stands_on = g.met.T.Part.stands_on; recovers_on = g.met.T.Part.recovers_on }) t.key t.table_id.slots seat.id seat.me c.requires.at.1
          (step t.table_id.slots 0 (length c.args.edges.now) 0 none) es (length c.args.edges.now) (ap length picked)
          (subst (All IsStorable) picked c.requires.storable) (subst (All (IsBelow t.key.layout.vertices)) picked c.requires.below)
          (subst (λ xs. length xs ≤ seat.me.0.share.quota) picked c.requires.quota),
    )
