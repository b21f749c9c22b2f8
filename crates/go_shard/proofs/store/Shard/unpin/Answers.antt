-- The pins that are left stand as they stood.
use Rattle.std.proofs.Common.{rules}
use Rattle.std.specs.Prelude.{not}
use Rattle.std.proofs.lemmas.Fn.{filter_same}
use Rattle.go_word.specs.Pins.{is_named}
use Rattle.go_shard.specs.contracts.store.Shard.{the_view}
use Rattle.go_shard.specs.ShardState.{ShardState}
use Rattle.go_shard.proofs.PinLemmas.{sound_unpinned, unpinned_is}
use Rattle.go_shard.proofs.store.Shard.unpin.Goals as goal

pub invariant_of-self : goal.invariant_of-self
invariant_of-self c =
    let old : ShardState = the_view c.self.inside in
    let left = filter_same _ (λ pin. not (is_named c.args.id pin)) _ (λ x b f' k. search rules) _ _ c.retain.ensures.filtered in
    (sound_unpinned old c.args.id _ c.self.invariant.0 left, c.self.invariant.1)

pub returns : goal.returns
returns c =
    let old : ShardState = the_view c.self.inside in
    let left = filter_same _ (λ pin. not (is_named c.args.id pin)) _ (λ x b f' k. search rules) _ _ c.retain.ensures.filtered in
    unpinned_is old c.args.self.now c.args.id _ c.self.view_is left
