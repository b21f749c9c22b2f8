-- The count lies between those at the cut and at the front, since counts rise with fronts.
use Rattle.std.proofs.Common.{◌≤◌, ℕ, ap, sym, subst, ◌∙◌}
use Rattle.go_versions.specs.History.{count_at}
use Rattle.go_versions.proofs.HistoryLemmas.{count_at-rises}
use Rattle.go_shard.specs.Lane.{Lane}
use Rattle.go_shard.specs.ShardState.{lane_of, told}
use Rattle.go_shard.proofs.store.Shard.degree_at.Goals as goal

pub returns-else-front-self-clause-from : goal.returns-else-front-self-clause-from
returns-else-front-self-clause-from c =
    let is = c.count_at.ensures ∙ ap (λ (lane : Lane). count_at lane.versions c.args.front) c.slot_of-slot.ensures.lane in
    subst (λ (n : ℕ). told c.args.self.now c.args.v c.args.self.now.cut ≤ n) (sym is)
    (count_at-rises (lane_of c.args.self.now c.args.v).versions c.args.self.now.cut c.args.front c.slot_of-slot.ensures.rest.rising c.requires.uncut)

pub returns-else-front-self-clause-there : goal.returns-else-front-self-clause-there
returns-else-front-self-clause-there c =
    let is = c.count_at.ensures ∙ ap (λ (lane : Lane). count_at lane.versions c.args.front) c.slot_of-slot.ensures.lane in
    let within = c.slot_of-slot.ensures.bounds c.args.front c.requires.kept in
    subst (λ (n : ℕ). n ≤ told c.args.self.now c.args.v c.args.self.now.front) (sym is)
    (count_at-rises (lane_of c.args.self.now c.args.v).versions c.args.front c.args.self.now.front c.slot_of-slot.ensures.rest.rising within)
