-- A shard that took a batch, or came to a front without one, is sound, and stands for the longer log.
use Rattle.std.proofs.Common.{◌≡◌, ℕ, ◌<◌, ◌≤◌, ◌-◌, List, ◌∙◌, ◌++◌, ◌∷◌, [], take, drop, length, arith, subst, sym, ap}
use Rattle.go_shard.specs.contracts.store.Shard.{the_view}
use Rattle.go_shard.specs.declared.fronts.FrontRange.{FrontRange}
use Rattle.go_shard.specs.Lane.{Lane}
use Rattle.go_shard.specs.Batch.{share_of, TookParts}
use Rattle.go_shard.specs.Listing.{AreListed, ListsBare}
use Rattle.go_shard.specs.ShardState.{ShardState}
use Rattle.go_shard.specs.Stands.{Stands, GoesOn, HasGrown}
use Rattle.go_shard.proofs.GrowthLemmas.{HasTaken, some_entries, lent, sound_after, stands_after, has_grown, listed_after}
use Rattle.go_shard.proofs.GrowthLemmas.{sound_as, stands_as, grown_as}
use Rattle.go_shard.proofs.ComingLemmas.{sound_on, stands_come, has_come, no_entries}
use Rattle.go_shard.proofs.store.Shard.append.Goals.{In_ok-take_batch, After-push_reserved}
use Rattle.go_shard.proofs.store.Shard.append.Goals as goal

pub invariant_of-self : goal.invariant_of-self
invariant_of-self c =
    let old : ShardState = the_view c.self.inside in
    let later : old.front < c.args.front = subst (λ (s : ShardState). s.front < c.args.front) (sym c.self.view_is) c.requires.later in
    (sound_on old c.args.front c.self.invariant.0 (omega (arith, later)) c.requires.small, c.self.invariant.1)

pub returns-then-is_empty-clause-stands : goal.returns-then-is_empty-clause-stands
returns-then-is_empty-clause-stands c = λ log more stands goes.
    let old : ShardState = the_view c.self.inside in
    let later : old.front < c.args.front = subst (λ (s : ShardState). s.front < c.args.front) (sym c.self.view_is) c.requires.later in
    stands_come old log more c.args.batch.now c.args.front c.self.invariant.0 (omega (
      arith,
      later,
    )) (subst (λ (s : ShardState). Stands s log) (sym c.self.view_is) stands)
    (subst (λ (s : ShardState). GoesOn s more c.args.batch.now c.args.front) (sym c.self.view_is) goes)
    (no_entries c.args.batch.now (sym c.is_empty.ensures ∙ c.if-is_empty.true))

pub returns-then-is_empty-clause-grown : goal.returns-then-is_empty-clause-grown
returns-then-is_empty-clause-grown c =
    let old : ShardState = the_view c.self.inside in
    let later : old.front < c.args.front = subst (λ (s : ShardState). s.front < c.args.front) (sym c.self.view_is) c.requires.later in
    subst (λ (s : ShardState). HasGrown c.args.front c.args.batch.now s (record old { front = c.args.front })) c.self.view_is
    (has_come old c.args.front c.args.batch.now c.self.invariant.0 (omega (arith, later)))

-- the lanes are as many as before, and have taken the batch
taken : (c : In_ok-take_batch) → HasTaken (the_view c.self.inside) c.args.front c.args.batch.now c.take_batch.new.slots
taken c =
    let old : ShardState = the_view c.self.inside in
    let same : c.deref_mut.result.now ≡ old.lanes = c.deref_mut.ensures.value in
    record {
      later = subst (λ (s : ShardState). s.front < c.args.front) (sym c.self.view_is) c.requires.later;
      equal = c.take_batch.auto.slots ∙ ap length same;
      took = subst (λ (n : ℕ). TookParts n c.args.front c.args.batch.now old.lanes c.take_batch.new.slots) c.new-shards.ensures
          (subst (λ (l : List Lane). TookParts c.new-shards.result c.args.front c.args.batch.now l c.take_batch.new.slots) same
          c.in_ok-take_batch.ensures.ok.lanes);
    }

-- the lanes that were lent come back whole
whole : (c : In_ok-take_batch) → take c.self.inside.slots.len (c.take_batch.new.slots ++ drop (length c.take_batch.new.slots) c.self.inside.slots.items)
    ≡ c.take_batch.new.slots
whole c = lent c.self.inside.slots.len c.take_batch.new.slots c.self.inside.slots.items (taken c).equal (omega arith)

-- the range up to the old front is kept
earlier : (c : After-push_reserved) → c.push_reserved.new.self.items
    ≡ c.self.inside.earlier.items ++ record { first = c.self.inside.since; last = c.self.inside.front } ∷ []
earlier c = c.push_reserved.ensures.items
    ∙ ap (λ (l : List FrontRange). l ++ record { first = c.self.inside.since; last = c.self.inside.front } ∷ []) c.in_ok-reserve.ensures.items

pub invariant_of-self-2 : goal.invariant_of-self-2
invariant_of-self-2 c =
    let at = goal.at.invariant_of-self-2 c in
    let here = at.In_ok-take_batch in
    let old : ShardState = the_view c.self.inside in
    let new = c.take_batch.new.slots in
    let is = taken here in
    let short : length c.args.batch.now ≤ c.args.front - old.front = subst (λ (s : ShardState). length c.args.batch.now ≤ c.args.front - s.front)
    (sym c.self.view_is) c.requires.short in
    let lists = subst (λ (l : List Lane). ListsBare l (share_of c.new-shards.result c.args.batch.now) c.self.inside.listed.items
    c.take_batch.new.listed.items) c.deref_mut.ensures.value c.in_ok-take_batch.ensures.ok.bare in
    let named = subst (λ (n : ℕ). ListsBare old.lanes (share_of n c.args.batch.now) c.self.inside.listed.items
    c.take_batch.new.listed.items) c.new-shards.ensures lists in (
      sound_as old c.args.front c.push_reserved.new.self.items _ new (earlier at.After-push_reserved) (whole here)
          (sound_after old c.args.front new c.args.batch.now c.self.invariant.0 is.later c.requires.small short is.equal is.took),
      subst (AreListed c.take_batch.new.listed.items) (sym (whole here)) (listed_after old c.args.front new c.args.batch.now
          c.self.inside.listed.items c.take_batch.new.listed.items c.self.invariant.0 c.self.invariant.1 is.later is.equal is.took named),
    )

pub returns-clause-stands : goal.returns-clause-stands
returns-clause-stands c = λ log more stands goes.
    let at = goal.at.returns-clause-stands c in
    let here = at.In_ok-take_batch in
    let old : ShardState = the_view c.self.inside in
    let is = taken here in
    stands_as old c.args.front c.push_reserved.new.self.items _ c.take_batch.new.slots (log ++ more) (earlier at.After-push_reserved) (whole here)
    (stands_after old log more c.args.batch.now c.args.front c.take_batch.new.slots c.self.invariant.0 is.later
    (subst (λ (s : ShardState). Stands s log) (sym c.self.view_is) stands)
    (subst (λ (s : ShardState). GoesOn s more c.args.batch.now c.args.front) (sym c.self.view_is) goes) is.took)

pub returns-clause-grown : goal.returns-clause-grown
returns-clause-grown c =
    let at = goal.at.returns-clause-grown c in
    let here = at.In_ok-take_batch in
    let old : ShardState = the_view c.self.inside in
    let is = taken here in
    grown_as old c.args.self.now c.args.front c.args.batch.now c.push_reserved.new.self.items _ c.take_batch.new.slots c.self.view_is
    (earlier at.After-push_reserved) (whole here)
    (has_grown old c.args.front c.take_batch.new.slots c.args.batch.now c.self.invariant.0 is.later is.took
    (some_entries c.args.batch.now (sym c.is_empty.ensures ∙ c.if-is_empty.false)))
