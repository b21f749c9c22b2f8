-- `store_archived`: the step keeps the rule.
use Rattle.std.proofs.Common.{ℕ, arith, subst}
use mathlib.Core.Option.{none}
use Rattle.atomic_table.specs.Table.{step}
use Rattle.go_rule.specs.Meaning.{meaning}
use Rattle.go_rule.specs.Steps.{CanArchiveTo}
use Rattle.go_rule.proofs.WorkerSteps.{archive_allowed}
use Rattle.go_rule.proofs.workers.store_archived.Goals as goal

pub store-requires : goal.store-requires
store-requires g c =
    let ring = c.args.ring.now in
    let t = ring.table.shared in (
      c.requires.at.0,
      (let words = ring.words_is in omega arith),
      archive_allowed (meaning g.T.Part) (record { stands_on = g.met.T.Part.stands_on; recovers_on = g.met.T.Part.recovers_on }) t.key t.table_id.slots
          c.args.seat.now.id c.args.seat.now.me c.requires.at.1 (step t.table_id.slots 1 c.args.front 0 none) c.args.front
          (subst (λ (n : ℕ). CanArchiveTo n c.args.seat.now.me.0 c.args.front) ring.shards_is c.requires.can),
    )
