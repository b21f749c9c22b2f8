-- Each lane is compacted, and the shard is sound and stands for the same logs.
use Rattle.std.proofs.Common.{◌≡◌, ◌≤◌, ◌++◌, ℕ, List, All, length, take, drop, filter, ap, sym, subst, arith, ◌∙◌}
use Rattle.std.specs.Prelude.{nat_lt}
use Rattle.go_shard.specs.contracts.store.Shard.{the_view}
use Rattle.go_shard.specs.Lane.{Lane, lane_at}
use Rattle.go_shard.specs.Listing.{AreListed}
use Rattle.go_shard.specs.Compacting.{CanCompact, HaveRenewed}
use Rattle.go_shard.specs.ShardState.{ShardState}
use Rattle.go_shard.specs.Stands.{Stands}
use Rattle.go_shard.proofs.GrowthLemmas.{lent}
use Rattle.go_shard.proofs.CompactLemmas.{IsCut, all_compact, all_compacted, still_listed, sound_cut, stands_cut, has_forgotten, cut_sound_as, cut_stands_as}
use Rattle.go_shard.proofs.CompactLemmas.{cut_forgotten_as, cut_at}
use Rattle.go_shard.proofs.store.Shard.compact.Goals.{In_ok-compact_listed}
use Rattle.go_shard.proofs.store.Shard.compact.Goals as goal

pub compact_listed-requires-clause-can : goal.compact_listed-requires-clause-can
compact_listed-requires-clause-can c =
    let old : ShardState = the_view c.self.inside in
    let cut = cut_at old c.args.self.now c.args.front c.self.view_is c.self.invariant.0 c.requires.kept c.requires.uncut in
    subst (All (CanCompact c.args.front)) (sym c.deref_mut.ensures.value) (all_compact old c.args.front cut.sound cut.from cut.to)

-- the lanes are as many as before, and each is compacted
cut : (c : In_ok-compact_listed) → IsCut (the_view c.self.inside) c.args.front c.compact_listed.new.slots
cut c =
    let old : ShardState = the_view c.self.inside in
    let at = c.args.front in
    let new = c.compact_listed.new.slots in
    let point = cut_at old c.args.self.now at c.self.view_is c.self.invariant.0 c.requires.kept c.requires.uncut in
    let renewed : HaveRenewed at old.lanes new c.self.inside.listed.items =
    subst (λ (l : List ℕ). HaveRenewed at old.lanes new l) c.deref.ensures.value
    (subst (λ (l : List Lane). HaveRenewed at l new c.deref.result.now) c.deref_mut.ensures.value (c.in_ok-compact_listed.ensures.ok)) in
    record {
      point = point;
      equal = c.compact_listed.auto.slots ∙ ap length c.deref_mut.ensures.value;
      compacted = all_compacted old at c.self.inside.listed.items new point.sound c.self.invariant.1 point.from point.to renewed;
    }

-- the lanes that were lent come back whole
whole : (c : In_ok-compact_listed) → take c.self.inside.slots.len (c.compact_listed.new.slots
    ++ drop (length c.compact_listed.new.slots) c.self.inside.slots.items) ≡ c.compact_listed.new.slots
whole c = lent c.self.inside.slots.len c.compact_listed.new.slots c.self.inside.slots.items (cut c).equal (omega arith)

pub invariant_of-self-2 : goal.invariant_of-self-2
invariant_of-self-2 c =
    let here = (goal.at.invariant_of-self-2 c).In_ok-compact_listed in
    let old : ShardState = the_view c.self.inside in
    let is = cut here in
    let listed = c.self.inside.listed.items in
    let new = c.compact_listed.new.slots in
    let pinned = subst (λ (s : ShardState). All (λ pin. c.args.front ≤ pin.front) s.pins) (sym c.self.view_is) c.requires.pinned in
    let still : AreListed (filter (λ place. nat_lt 0 (length (lane_at new place).words)) listed) new =
    still_listed c.args.front old.lanes new listed is.equal c.self.invariant.1 is.compacted in
    let bare = c.forget_bare.ensures
    ∙ ap (λ (l : List Lane). filter (λ place. nat_lt 0 (length (lane_at l place).words)) listed) (c.deref-2.ensures.value ∙ whole here) in (
      cut_sound_as old c.args.front c.forget_below.new.ranges.items _ new c.forget_below.ensures (whole here)
          (sound_cut old c.args.front new is.point.sound is.point.kept is.point.from pinned is.equal is.compacted),
      subst (λ (l : List Lane). AreListed c.forget_bare.new.listed.items l) (sym (whole here))
          (subst (λ (l : List ℕ). AreListed l new) (sym bare) still),
    )

pub returns-clause-stands : goal.returns-clause-stands
returns-clause-stands c = λ log stands.
    let here = (goal.at.returns-clause-stands c).In_ok-compact_listed in
    let old : ShardState = the_view c.self.inside in
    let is = cut here in
    cut_stands_as old c.args.front c.forget_below.new.ranges.items _ c.compact_listed.new.slots log c.forget_below.ensures (whole here)
    (stands_cut old log c.args.front c.compact_listed.new.slots is.point.sound (subst (λ (s : ShardState). Stands s log) (sym c.self.view_is) stands)
    is.point.kept is.point.from is.compacted)

pub returns-clause-forgotten : goal.returns-clause-forgotten
returns-clause-forgotten c =
    let here = (goal.at.returns-clause-forgotten c).In_ok-compact_listed in
    let old : ShardState = the_view c.self.inside in
    cut_forgotten_as old c.args.self.now c.args.front c.forget_below.new.ranges.items _ c.compact_listed.new.slots c.self.view_is c.forget_below.ensures
    (whole here) (has_forgotten old c.args.front c.compact_listed.new.slots (cut here).compacted)
