-- One entry more is promised its place, and listed where its lane is bare.
use Rattle.std.proofs.Common.{◌≡◌, ◌<◌, false, length, get_or, arith, ◌∙◌}
use Rattle.std.proofs.lemmas.List.{length-set, get_or_default}
use Rattle.go_word.specs.declared.edge.Edge.{Edge}
use Rattle.go_shard.proofs.ListingLemmas.{IsNextAt, promised_entry, listed_entry}
use Rattle.go_shard.proofs.batch.promise_some.Goals as goal

pub loop-edge-preserved : goal.loop-edge-preserved
loop-edge-preserved c =
    let none : Edge = record { del = false; src = 0; dst = 0 } in
    let i = c.loop-edge.edge-index in
    let p = c.place_of-place.result in
    let inside : p < length c.loop-edge.slots = omega (
      arith,
      c.place_of-place.ensures,
      c.requires.inside i none c.loop-edge-test.true,
      c.loop-edge.invariant.all,
    ) in
    let was = get_or c.loop-edge.slots p c.index-slots-place.result in
    let read : was ≡ get_or c.loop-edge.slots p was = get_or_default c.loop-edge.slots p c.index-slots-place.result was inside in
    let next : IsNextAt c.args.shards c.args.batch.now i none c.loop-edge.slots p was =
    record { within = c.loop-edge-test.true; at = c.place_of-place.ensures; inside = inside; read = read } in
    record {
      all = length-set c.loop-edge.slots p c.promise_listed.new.slot ∙ c.loop-edge.invariant.all;
      promised = promised_entry c.args.slots.now c.promise_listed.new.slot next c.in_ok-promise_listed.ensures.ok c.loop-edge.invariant.promised;
      listed = listed_entry c.args.slots.now c.args.listed.now.items c.loop-edge.listed.items c.promise_listed.new.listed.items next
          c.loop-edge.invariant.all c.in_ok-promise_listed.ensures.listed c.loop-edge.invariant.promised c.loop-edge.invariant.listed;
    }
