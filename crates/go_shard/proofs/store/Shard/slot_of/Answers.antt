-- The lane is that of the vertex, and at rest, since the shard is sound.
use Rattle.std.proofs.Common.{◌≡◌, ◌<◌, ◌≤◌, ◌/◌, ◌^◌, subst, sym, ap, ◌∙◌, arith, get_or, length}
use Rattle.std.proofs.Math.Nat.{div-mul-le_self}
use Rattle.std.proofs.lemmas.List.{get_or_default}
use Rattle.std.proofs.lemmas.Nat.{le-div}
use Rattle.go_shard.specs.Lane.{empty_lane}
use Rattle.go_shard.specs.ShardState.{ShardState, IsAtRest, Keeps, lane_of}
use Rattle.go_shard.proofs.RestLemmas.{rest_at}
use Rattle.go_shard.proofs.KeepsLemmas.{keeps_within}
use Rattle.go_shard.proofs.store.Shard.slot_of.Goals as goal

pub returns-clause-lane : goal.returns-clause-lane
returns-clause-lane c =
    let sound = c.self.invariant.0 in
    let within : c.args.v < c.self.inside.vertices = subst (λ (s : ShardState). c.args.v < s.vertices) (sym c.self.view_is) c.requires.within in
    let early : c.args.v / c.self.inside.shards ≤ c.self.inside.vertices / c.self.inside.shards =
    le-div (c.args.v / c.self.inside.shards) c.self.inside.vertices c.self.inside.shards sound.shape.shared (omega (
      arith,
      within,
      div-mul-le_self c.args.v c.self.inside.shards,
    )) in
    let at : c.place_of.result ≡ c.args.v / c.self.inside.shards = c.place_of.ensures ∙ ap (λ n. c.args.v / n) c.new.ensures in
    let inside : c.place_of.result < length c.self.inside.slots.items = omega (arith, early, at, sound.shape.whole) in
    c.index.ensures
    ∙ get_or_default c.self.inside.slots.items c.place_of.result c.index.result.now empty_lane inside
    ∙ ap (λ k. get_or c.self.inside.slots.items k empty_lane) at
    ∙ ap (λ (s : ShardState). lane_of s c.args.v) c.self.view_is

pub returns-clause-rest : goal.returns-clause-rest
returns-clause-rest c =
    subst (λ (s : ShardState). IsAtRest s.cut s.front (lane_of s c.args.v)) c.self.view_is
    (rest_at c.self.inside.cut c.self.inside.front c.self.inside.slots.items (c.args.v / c.self.inside.shards) c.self.invariant.0.rest)

pub returns-clause-bounds : goal.returns-clause-bounds
returns-clause-bounds c = λ f kept.
    subst (λ (s : ShardState). f ≤ s.front) c.self.view_is (keeps_within _ f c.self.invariant.0
    (subst (λ (s : ShardState). Keeps s f) (sym c.self.view_is) kept))

pub returns-clause-small : goal.returns-clause-small
returns-clause-small c = subst (λ (s : ShardState). s.front < 2 ^ 32) c.self.view_is c.self.invariant.0.bounds.small
