-- `load_ending_as`: the step keeps the rule, and tells by what the call picks.
use Rattle.std.proofs.Common.{ℕ, arith, subst}
use mathlib.Core.Option.{none}
use Rattle.atomic_table.specs.Table.{step, Allows}
use Rattle.go_core.specs.Frame.{Frame}
use Rattle.go_rule.specs.Meaning.{meaning}
use Rattle.go_rule.specs.Rule.{IsRuled}
use Rattle.go_rule.specs.Steps.{LoadsEnding, CanEnd}
use Rattle.go_rule.proofs.FrontLoads.{ending_allowed}
use Rattle.go_rule.proofs.loads.load_ending_as.Goals as goal

pub load-requires : goal.load-requires
load-requires g c =
    let m = meaning g.T.Part in
    let t = c.args.ring.now.table.shared in
    let words = c.args.ring.now.words_is in
    let seat = c.args.seat.now in
    let say = step t.table_id.slots 2 0 0 none in
    let kept = ending_allowed m (record { stands_on = g.met.T.Part.stands_on; recovers_on = g.met.T.Part.recovers_on }) t.key t.table_id.slots seat.id seat.me
    c.requires.at.1 say c.args.end (subst (λ (n : ℕ). CanEnd n seat.me.0 c.args.end) c.args.ring.now.slots_is c.requires.copied)
    in (
      c.requires.at.0,
      omega arith,
      subst (λ (e : ℕ). Allows (IsRuled m t.key) t.table_id.slots seat.id seat.me 2 (λ n. n) (LoadsEnding g.E.Ends.frame e say seat.me)) c.requires.picked.1
          (subst (λ (f : Frame). Allows (IsRuled m t.key) t.table_id.slots seat.id seat.me 2 (λ n. n) (LoadsEnding f c.args.end say seat.me))
          c.requires.picked.0 kept),
    )
