-- One lane more is renewed, or needs no renewal.
use Rattle.std.proofs.Common.{◌≡◌, ◌<◌, ◌≤◌, ℕ, length, get_or, set, sym, subst, arith}
use Rattle.std.proofs.lemmas.List.{get_or_default}
use Rattle.std.specs.Prelude.{Some}
use Rattle.go_shard.specs.Compacting.{renewed}
use Rattle.go_shard.specs.Lane.{Lane, empty_lane, lane_at}
use Rattle.go_shard.proofs.RenewalLemmas.{IsRenewing, IsPopped, popped, renewing_same, renewing_next}
use Rattle.go_shard.proofs.compacting.compact_listed.Goals as goal

pub loop-renewal-preserved-in-Some-renewal : goal.loop-renewal-preserved-in-Some-renewal
loop-renewal-preserved-in-Some-renewal c =
    let new = c.pop.new.self.items in
    let lanes = c.loop-renewal.slots in
    let renewal = c.in-Some-renewal.renewal in
    let at : length new ≡ c.len.result = omega (arith, c.len.ensures, c.pop.new.self.ok) in
    let is : IsPopped c.args.front c.args.slots.now lanes c.args.listed.now new (Some renewal) =
    subst (IsPopped c.args.front c.args.slots.now lanes c.args.listed.now new) c.in-Some-renewal.is
    (popped c.args.front c.args.slots.now c.args.listed.now lanes c.loop-renewal.left.items new c.in-Some.renewal
    c.in-Some.ensures.items c.loop-renewal.invariant) in
    let place : ℕ = get_or c.args.listed.now c.len.result 0 in
    let inside : get_or c.args.listed.now (length new) 0 < length lanes = omega (arith, c.requires.inside (length new) 0 is.here, is.all) in
    let within : place < length lanes = subst (λ (n : ℕ). get_or c.args.listed.now n 0 < length lanes) at inside in
    let found : get_or lanes place c.index-slots-listed.result ≡ lane_at lanes place =
    get_or_default lanes place c.index-slots-listed.result empty_lane within in
    let already : renewal.base.value.floor ≤ (lane_at lanes place).floor → c.renew.new.self ≡ lane_at lanes place =
    subst (λ (l : Lane). renewal.base.value.floor ≤ l.floor → c.renew.new.self ≡ l) found c.renew.ensures.already in
    let takes : (lane_at lanes place).floor < renewal.base.value.floor →
    c.renew.new.self ≡ record (renewed renewal (lane_at lanes place)) { spare = c.renew.new.self.spare } =
    subst (λ (l : Lane). l.floor < renewal.base.value.floor → c.renew.new.self ≡ record (renewed renewal l) { spare = c.renew.new.self.spare }) found
    c.renew.ensures.renewed in
    subst (λ (n : ℕ). IsRenewing c.args.front c.args.slots.now c.args.listed.now (set lanes (get_or c.args.listed.now n 0) c.renew.new.self) new) at
    (renewing_next c.args.front c.args.slots.now c.args.listed.now lanes new renewal c.renew.new.self c.requires.inside is
    (subst (λ (n : ℕ). renewal.base.value.floor ≤ (lane_at lanes (get_or c.args.listed.now n 0)).floor →
    c.renew.new.self ≡ lane_at lanes (get_or c.args.listed.now n 0)) (sym at) already)
    (subst (λ (n : ℕ). (lane_at lanes (get_or c.args.listed.now n 0)).floor < renewal.base.value.floor →
    c.renew.new.self ≡ record (renewed renewal (lane_at lanes (get_or c.args.listed.now n 0))) { spare = c.renew.new.self.spare }) (sym at) takes))

pub loop-renewal-preserved : goal.loop-renewal-preserved
loop-renewal-preserved c =
    renewing_same c.args.front c.args.slots.now c.args.listed.now c.loop-renewal.slots c.pop.new.self.items
    (subst (IsPopped c.args.front c.args.slots.now c.loop-renewal.slots c.args.listed.now c.pop.new.self.items) c.in_default-renewal.is
    (popped c.args.front c.args.slots.now c.args.listed.now c.loop-renewal.slots c.loop-renewal.left.items c.pop.new.self.items c.in-Some.renewal
    c.in-Some.ensures.items c.loop-renewal.invariant))
