-- Each pin stands at a kept front, and not below the cut, since the shard is sound.
use Rattle.std.proofs.Common.{◌≤◌, sym, subst}
use Rattle.std.specs.Prelude.{Contains}
use Rattle.std.proofs.lemmas.List.Elements.{All-contains}
use Rattle.go_word.specs.declared.edge.TheConstants.{VERTEX_LIMIT}
use Rattle.go_shard.specs.contracts.store.Shard.{the_view}
use Rattle.go_shard.specs.ShardState.{ShardState, Keeps, IsPinned}
use Rattle.go_shard.proofs.KeepsLemmas.{keeps_within}
use Rattle.go_shard.proofs.store.Shard.pinned_front.Goals as goal

pub returns-clause-kept : goal.returns-clause-kept
returns-clause-kept c =
    let old : ShardState = the_view c.self.inside in
    let held : Contains old.pins c.args.pin = subst (λ (s : ShardState). Contains s.pins c.args.pin) (sym c.self.view_is) c.requires in
    subst (λ (s : ShardState). Keeps s c.args.pin.front) c.self.view_is
    (All-contains (IsPinned old) old.pins c.args.pin c.self.invariant.0.pins held).kept

pub returns-clause-uncut : goal.returns-clause-uncut
returns-clause-uncut c =
    let old : ShardState = the_view c.self.inside in
    let held : Contains old.pins c.args.pin = subst (λ (s : ShardState). Contains s.pins c.args.pin) (sym c.self.view_is) c.requires in
    subst (λ (s : ShardState). s.cut ≤ c.args.pin.front) c.self.view_is
    (All-contains (IsPinned old) old.pins c.args.pin c.self.invariant.0.pins held).uncut

pub returns-clause-within : goal.returns-clause-within
returns-clause-within c =
    let old : ShardState = the_view c.self.inside in
    let held : Contains old.pins c.args.pin = subst (λ (s : ShardState). Contains s.pins c.args.pin) (sym c.self.view_is) c.requires in
    subst (λ (s : ShardState). c.args.pin.front ≤ s.front) c.self.view_is
    (keeps_within old c.args.pin.front c.self.invariant.0 (All-contains (IsPinned old) old.pins c.args.pin c.self.invariant.0.pins held).kept)

pub returns-clause-few : goal.returns-clause-few
returns-clause-few c = subst (λ (s : ShardState). s.vertices ≤ VERTEX_LIMIT) c.self.view_is c.self.invariant.0.shape.few
