-- What the lane lists are the neighbours by the log that the shard stands for.
use Rattle.std.proofs.Common.{◌≤◌, ap, subst, arith, ◌∙◌}
use Rattle.std.proofs.lemmas.Result.{on_ok_weaker}
use Rattle.go_shard.specs.Lane.{Lane, list_at}
use Rattle.go_shard.specs.ShardState.{lane_of, IsSound}
use Rattle.go_shard.proofs.GrowthLemmas.{list_at-log}
use Rattle.go_shard.proofs.store.Shard.neighbours.Goals as goal

pub returns : goal.returns
returns c = λ log stands.
    let sound : IsSound c.args.self.now = subst IsSound c.self.view_is c.self.invariant.0 in
    let enough : (lane_of c.args.self.now c.args.v).floor ≤ c.args.raw = omega (arith, c.slot_of.ensures.rest.at_cut, c.requires.from) in
    on_ok_weaker c.list_at.result (λ gives.
    gives ∙ ap (λ (lane : Lane). list_at lane c.args.raw) c.slot_of.ensures.lane
    ∙ list_at-log c.args.self.now log c.args.v c.args.raw sound stands c.requires.own enough) c.list_at.ensures
