-- A moved pin stands at a front that is kept, and above the cut.
use Rattle.std.proofs.Common.{◌≡◌, ◌≤◌, ◌∙◌, All, map, length, ap, sym, subst, arith, if◌then◌else◌, true}
use Rattle.go_word.specs.Pins.{is_named}
use Rattle.go_shard.specs.contracts.store.Shard.{the_view}
use Rattle.go_shard.specs.ShardState.{ShardState, Keeps}
use Rattle.go_shard.proofs.GrowthLemmas.{lent}
use Rattle.go_shard.proofs.PinLemmas.{sound_moved}
use Rattle.go_shard.proofs.store.Shard.move_pin.Goals as goal

pub invariant_of-self : goal.invariant_of-self
invariant_of-self c =
    let old : ShardState = the_view c.self.inside in
    let kept : Keeps old c.args.front = subst (λ (s : ShardState). Keeps s c.args.front) (sym c.self.view_is) c.requires.kept in
    let upwards = subst (λ (s : ShardState). All (λ pin. is_named c.args.id pin ≡ true →
    pin.front ≤ c.args.front) s.pins) (sym c.self.view_is) c.requires.upwards in
    let same = c.deref_mut.ensures.value in
    let whole = lent c.self.inside.pins.len c.move_named.new.pins c.self.inside.pins.items (c.move_named.auto.pins ∙ ap length same) (omega arith) in
    let moved = whole ∙ c.move_named.ensures ∙ ap (map (λ pin. if is_named c.args.id pin then record { id = pin.id; front = c.args.front } else pin)) same in
    (sound_moved old c.args.id c.args.front _ c.self.invariant.0 kept upwards moved, c.self.invariant.1)
