-- The next number, where this one is a name.
use Rattle.std.proofs.Common.{◌≡◌, ◌<◌, ◌+◌, ap, sym, ◌∙◌, arith, true, below_more}
use Rattle.go_word.specs.Pins.{has_name}
use Rattle.go_shard.specs.ShardState.{ShardState}
use Rattle.go_shard.proofs.FrontLemmas.{named_from, named_next}
use Rattle.go_shard.proofs.store.Shard.free_pin.Goals as goal

pub loop-self-smaller : goal.loop-self-smaller
loop-self-smaller c =
    let pins = c.args.self.now.pins in
    let same : c.deref.result.now ≡ pins = c.deref.ensures.value ∙ ap (λ (s : ShardState). s.pins) c.self.view_is in
    let named : has_name c.loop-self.id pins ≡ true = sym (c.is_pinned.ensures ∙ ap (has_name c.loop-self.id) same) ∙ c.loop-self-test.true in
    let less : named_from (c.loop-self.id + 1) pins < named_from c.loop-self.id pins = omega (arith, named_next c.loop-self.id pins named) in
    less

pub loop-self-preserved : goal.loop-self-preserved
loop-self-preserved c =
    let pins = c.args.self.now.pins in
    let same : c.deref.result.now ≡ pins = c.deref.ensures.value ∙ ap (λ (s : ShardState). s.pins) c.self.view_is in
    let named : has_name c.loop-self.id pins ≡ true = sym (c.is_pinned.ensures ∙ ap (has_name c.loop-self.id) same) ∙ c.loop-self-test.true in
    record {
      least = below_more (λ id. has_name id pins ≡ true) c.loop-self.id c.loop-self.invariant.least named;
      room = omega (arith, named_next c.loop-self.id pins named, c.loop-self.invariant.room);
    }
