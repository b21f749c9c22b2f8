-- The groups are taken, or given back.
use Rattle.std.proofs.Common.{◌≡◌, ◌<◌, ℕ, List, true, length, ap, subst, arith, ◌∙◌}
use Rattle.std.proofs.lemmas.Bool.{lt-ltb}
use Rattle.std.specs.Prelude.{Bool, if◌then◌else◌, nat_lt}
use Rattle.go_shard.specs.Lane.{lane_at, taking, without_last}
use Rattle.go_shard.specs.Groups.{size_at, group_at}
use Rattle.go_shard.specs.Listing.{ListsBare}
use Rattle.go_shard.proofs.ByGroupsLemmas.{took_groups, gave_back_groups, listed_batch}
use Rattle.go_shard.proofs.by_groups.take_by_groups.Goals.{After-take_groups-reached}
use Rattle.go_shard.proofs.by_groups.take_by_groups.Goals as goal

-- the first lanes have taken their groups
taken : (c : After-take_groups-reached) (p : ℕ) → lane_at c.take_groups-reached.new.slots p ≡ (if nat_lt p c.take_groups-reached.result
    then taking c.args.front (group_at c.in_ok-groups.groups.ends.items c.in_ok-groups.groups.words.items p) (lane_at c.args.slots.now p)
    else lane_at c.args.slots.now p)
taken c =
    let new = c.take_groups-reached.new.slots in
    let reached = c.take_groups-reached.result in
    subst (λ (l : List ℕ). (p : ℕ) → lane_at new p ≡ (if nat_lt p reached then taking c.args.front (group_at c.in_ok-groups.groups.ends.items l p)
    (lane_at c.args.slots.now p) else lane_at c.args.slots.now p)) c.deref-2.ensures.value
    (subst (λ (l : List ℕ). (p : ℕ) → lane_at new p ≡ (if nat_lt p reached then taking c.args.front (group_at l c.deref-2.result.now p)
    (lane_at c.args.slots.now p) else lane_at c.args.slots.now p)) c.deref.ensures.value c.take_groups-reached.ensures.taken)

pub returns-then-reached-slots-clause-err : goal.returns-then-reached-slots-clause-err
returns-then-reached-slots-clause-err c =
    let here = (goal.at.returns-then-reached-slots-clause-err c).After-take_groups-reached in
    let mid = c.take_groups-reached.new.slots in
    let given = subst (λ (l : List ℕ). (p : ℕ) → lane_at c.give_back_groups.new.slots p ≡ (if nat_lt p c.take_groups-reached.result
    then without_last (size_at l p) (lane_at mid p) else lane_at mid p)) c.deref-then-reached-slots.ensures.value c.give_back_groups.ensures in
    gave_back_groups c.args.front c.take_groups-reached.result c.in_ok-groups.groups.ends.items c.in_ok-groups.groups.words.items c.args.slots.now
    mid c.give_back_groups.new.slots c.in_ok-groups.ensures.places (c.give_back_groups.auto.slots ∙ c.take_groups-reached.auto.slots)
    c.take_groups-reached.ensures.within c.in_ok-groups.ensures.grouped.cut c.requires.room.settled (taken here) given

pub returns-clause-ok : goal.returns-clause-ok
returns-clause-ok c =
    let here = (goal.at.returns-clause-ok c).After-take_groups-reached in
    let old = c.args.slots.now in
    let new = c.take_groups-reached.new.slots in
    let ends = c.in_ok-groups.groups.ends.items in
    let words = c.in_ok-groups.groups.words.items in
    let reached = c.take_groups-reached.result in
    let all : reached ≡ length old = omega (arith, c.if-reached-slots.false, c.take_groups-reached.auto.slots, c.take_groups-reached.ensures.within) in
    let each : (p : ℕ) → p < length old → lane_at new p ≡ taking c.args.front (group_at ends words p) (lane_at old p) = λ p within.
    (let yes : nat_lt p reached ≡ true = lt-ltb p reached (omega (arith, within, all)) in
    taken here p ∙ ap (λ (b : Bool). if b then taking c.args.front (group_at ends words p) (lane_at old p) else lane_at old p) yes) in
    let lists = subst (λ (l : List ℕ). ListsBare old (size_at l) c.args.listed.now.items c.take_groups-reached.new.listed.items) c.deref.ensures.value
    (c.take_groups-reached.ensures.listed all) in
    record {
      lanes = took_groups c.args.shards c.args.front c.args.batch.now ends words old new c.in_ok-groups.ensures.places c.take_groups-reached.auto.slots
          c.requires.room.inside c.in_ok-groups.ensures.grouped each;
      bare = listed_batch c.args.shards c.args.batch.now ends words old c.args.listed.now.items c.take_groups-reached.new.listed.items
          c.in_ok-groups.ensures.places c.requires.room.inside c.in_ok-groups.ensures.grouped lists;
    }
