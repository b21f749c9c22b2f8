-- Each vertex in turn is ready for its group and takes it, up to one that is refused memory.
use Rattle.std.proofs.Common.{◌≡◌, ◌-◌, ◌<◌, ℕ, List, true, false, length, get_or, set, take, drop, sym, ap, subst, arith, ◌∙◌}
use Rattle.std.proofs.lemmas.List.{length-set, set-get_or, get_or_default}
use Rattle.std.specs.Prelude.{if◌then◌else◌, nat_lt}
use Rattle.std.specs.Result.{is_err}
use Rattle.go_shard.specs.Lane.{Lane, lane_at, taking}
use Rattle.go_shard.specs.Groups.{group_at}
use Rattle.go_shard.specs.Listing.{HasListed}
use Rattle.go_shard.proofs.LaneLemmas.{at_ok, at_err}
use Rattle.go_shard.proofs.GroupLemmas.{begin_of-next}
use Rattle.go_shard.proofs.ByGroupsLemmas.{lanes_next, lane_left, IsReadyForGroup, is_ready, group_long, taken_here}
use Rattle.go_shard.proofs.ListingLemmas.{listed_group, listed_groups}
use Rattle.go_shard.proofs.by_groups.take_groups.Goals.{In-loop-place}
use Rattle.go_shard.proofs.by_groups.take_groups.Goals as goal

-- the lane of the next group, however it is read, is what it was
was : (c : In-loop-place) (d : Lane) → get_or c.loop-place.slots c.loop-place.place d ≡ lane_at c.args.slots.now c.loop-place.place
was c d =
    let place = c.loop-place.place in
    let inside : place < length c.loop-place.slots = omega (arith, c.loop-place-test.true, c.loop-place.invariant.all) in
    let lane = get_or c.loop-place.slots place d in
    lane_left (λ p. taking c.args.front (group_at c.args.ends.now c.args.words.now p) (lane_at c.args.slots.now p)) c.args.slots.now
    c.loop-place.slots place lane inside c.loop-place.invariant.taken (get_or_default c.loop-place.slots place d lane inside)

-- and ready for its group
ready : (c : In-loop-place) (d : Lane) → IsReadyForGroup c.args.front (get_or c.loop-place.slots c.loop-place.place d)
    (take (get_or c.args.ends.now c.loop-place.place 0 - c.loop-place.from) (drop c.loop-place.from c.args.words.now))
ready c d =
    let within : c.loop-place.place < length c.args.slots.now = omega (arith, c.loop-place-test.true, c.loop-place.invariant.all) in
    is_ready c.args.front c.loop-place.place c.loop-place.from c.args.slots.now c.args.ends.now c.args.words.now
    (get_or c.loop-place.slots c.loop-place.place d) within (was c d) c.requires.settled c.requires.ahead c.requires.small

pub take_listed-requires-clause-settled : goal.take_listed-requires-clause-settled
take_listed-requires-clause-settled c = (ready (goal.at.take_listed-requires-clause-settled c).In-loop-place c.index-slots-place.result).settled

pub take_listed-requires-clause-ahead : goal.take_listed-requires-clause-ahead
take_listed-requires-clause-ahead c = (ready (goal.at.take_listed-requires-clause-ahead c).In-loop-place c.index-slots-place.result).ahead

pub take_listed-requires-clause-small : goal.take_listed-requires-clause-small
take_listed-requires-clause-small c = (ready (goal.at.take_listed-requires-clause-small c).In-loop-place c.index-slots-place.result).small

pub returns-then-is_err-clause-taken : goal.returns-then-is_err-clause-taken
returns-then-is_err-clause-taken c =
    let slots = c.loop-place.slots in
    let place = c.loop-place.place in
    let some : is_err c.take_listed.result ≡ true = sym c.is_err.ensures.value ∙ c.if-is_err.true in
    let err = at_err (c.take_listed.new.slot ≡ get_or slots place c.index-slots-place.result) c.take_listed.result some c.take_listed.ensures.err in
    let same : set slots place c.take_listed.new.slot ≡ slots = ap (set slots place) err ∙ set-get_or slots place c.index-slots-place.result in
    subst (λ (l : List Lane). (p : ℕ) → lane_at l p ≡ (if nat_lt p place then taking c.args.front (group_at c.args.ends.now c.args.words.now p)
    (lane_at c.args.slots.now p) else lane_at c.args.slots.now p)) (sym same) c.loop-place.invariant.taken

pub loop-place-preserved : goal.loop-place-preserved
loop-place-preserved c =
    let here = (goal.at.loop-place-preserved c).In-loop-place in
    let old = c.args.slots.now in
    let ends = c.args.ends.now in
    let words = c.args.words.now in
    let place = c.loop-place.place in
    let from = c.loop-place.from in
    let lane = get_or c.loop-place.slots place c.index-slots-place.result in
    let inside : place < length c.loop-place.slots = omega (arith, c.loop-place-test.true, c.loop-place.invariant.all) in
    let within : place < length old = omega (arith, inside, c.loop-place.invariant.all) in
    let long = group_long ends words place from (omega (arith, within, c.requires.whole)) c.loop-place.invariant.begins c.requires.cut in
    let none : is_err c.take_listed.result ≡ false = sym c.is_err.ensures.value ∙ c.if-is_err.false in
    let group : List ℕ = take (get_or ends place 0 - from) (drop from words) in
    let took = at_ok (c.take_listed.new.slot ≡ taking c.args.front group lane) c.take_listed.result none c.take_listed.ensures.ok in
    let lists = at_ok (HasListed place (length group) lane c.loop-place.listed.items c.take_listed.new.listed.items) c.take_listed.result none
    c.take_listed.ensures.listed in
    record {
      all = length-set c.loop-place.slots place c.take_listed.new.slot ∙ c.loop-place.invariant.all;
      begins = begin_of-next ends place;
      taken = lanes_next (λ p. taking c.args.front (group_at ends words p) (lane_at old p)) old c.loop-place.slots place c.take_listed.new.slot inside
          c.loop-place.invariant.taken (taken_here c.args.front place from old ends words lane c.take_listed.new.slot (was here c.index-slots-place.result)
          c.loop-place.invariant.begins took);
      listed = listed_group c.args.listed.now.items c.loop-place.listed.items c.take_listed.new.listed.items
          (record { inside = within; lane = was here c.index-slots-place.result; size = long }) c.requires.settled lists c.loop-place.invariant.listed;
    }

pub returns-clause-taken : goal.returns-clause-taken
returns-clause-taken c =
    let at : c.loop-place.place ≡ length c.loop-place.slots = omega (arith, c.loop-place-test.false, c.loop-place.auto.place-end) in
    subst (λ (n : ℕ). (p : ℕ) → lane_at c.loop-place.slots p ≡ (if nat_lt p n then taking c.args.front (group_at c.args.ends.now c.args.words.now p)
    (lane_at c.args.slots.now p) else lane_at c.args.slots.now p)) at c.loop-place.invariant.taken

pub returns-clause-listed : goal.returns-clause-listed
returns-clause-listed c = λ all.
    listed_groups c.args.slots.now c.args.ends.now c.loop-place.place c.args.listed.now.items c.loop-place.listed.items
    (omega (arith, c.requires.whole, c.loop-place-test.false, c.loop-place.invariant.all)) c.loop-place.invariant.listed
