-- Each vertex in turn gives its group back.
use Rattle.std.proofs.Common.{◌≡◌, ◌-◌, ◌<◌, ℕ, length, get_or, sym, ap, subst, arith, ◌∙◌}
use Rattle.std.proofs.lemmas.List.{length-set}
use Rattle.std.specs.Prelude.{if◌then◌else◌, nat_lt}
use Rattle.go_shard.specs.Lane.{Lane, lane_at, without_last}
use Rattle.go_shard.specs.Groups.{size_at}
use Rattle.go_shard.proofs.GroupLemmas.{begin_of-next}
use Rattle.go_shard.proofs.ByGroupsLemmas.{lanes_next, lane_left}
use Rattle.go_shard.proofs.by_groups.give_back_groups.Goals as goal

pub loop-place-preserved : goal.loop-place-preserved
loop-place-preserved c =
    let old = c.args.slots.now in
    let ends = c.args.ends.now in
    let place = c.loop-place.place in
    let inside : place < length c.loop-place.slots = omega (arith, c.loop-place-test.true, c.requires.within, c.loop-place.invariant.all) in
    let read = lane_left (λ p. without_last (size_at ends p) (lane_at old p)) old c.loop-place.slots place c.index-slots-place.result inside
    c.loop-place.invariant.given c.index-slots-place.is in
    let was = sym c.index-slots-place.is ∙ read in
    let size = ap (λ (n : ℕ). get_or ends place 0 - n) c.loop-place.invariant.begins in
    record {
      all = length-set c.loop-place.slots place c.give_back.new.self ∙ c.loop-place.invariant.all;
      begins = begin_of-next ends place;
      given = lanes_next (λ p. without_last (size_at ends p) (lane_at old p)) old c.loop-place.slots place c.give_back.new.self inside
          c.loop-place.invariant.given (c.give_back.ensures
          ∙ ap (λ (l : Lane). without_last (get_or ends place 0 - c.loop-place.from) l) was ∙ ap (λ n. without_last n (lane_at old place)) size);
    }

pub returns : goal.returns
returns c =
    let at : c.loop-place.place ≡ c.args.count = omega (arith, c.loop-place-test.false, c.loop-place.auto.place-end) in
    subst (λ (n : ℕ). (p : ℕ) → lane_at c.loop-place.slots p ≡ (if nat_lt p n
    then without_last (size_at c.args.ends.now p) (lane_at c.args.slots.now p) else lane_at c.args.slots.now p)) at c.loop-place.invariant.given
