-- Each lane is ready for its next entry, by the lemma.
use Rattle.std.proofs.Common.{◌≡◌, ◌<◌, subst, arith, get_or, length, sym, false}
use Rattle.std.proofs.lemmas.List.{get_or_default}
use Rattle.go_word.specs.declared.edge.Edge.{Edge}
use Rattle.go_shard.specs.Lane.{Lane, empty_lane, lane_at}
use Rattle.go_shard.proofs.LaneLemmas.{accept_ready, IsReadyFor}
use Rattle.go_shard.proofs.batch.accept_all.Goals.{After-place_of}
use Rattle.go_shard.proofs.batch.accept_all.Goals as goal

-- the lane of the next entry, however it is read
ready : (c : After-place_of) (d : Lane) → IsReadyFor c.args.front (get_or c.loop-edge.slots c.place_of.result d)
ready c d =
    let p = c.place_of.result in
    let none : Edge = record { del = false; src = 0; dst = 0 } in
    let inside : p < length c.args.slots.now = omega (
      arith,
      c.place_of.ensures,
      c.requires.inside c.loop-edge.edge-index none c.loop-edge-test.true,
    ) in
    let there : get_or c.loop-edge.slots p d ≡ lane_at c.loop-edge.slots p =
    get_or_default c.loop-edge.slots p d empty_lane (omega (arith, inside, c.loop-edge.invariant.all)) in
    subst (IsReadyFor c.args.front) (sym there)
    (accept_ready c.args.shards c.args.front (lane_at c.args.slots.now p) (lane_at c.loop-edge.slots p) c.args.batch.now c.loop-edge.edge-index p
    none c.loop-edge-test.true (sym c.place_of.ensures) (c.requires.promised p)
    (c.requires.ahead p empty_lane inside) (c.requires.small p empty_lane inside) (c.loop-edge.invariant.accepted p))

pub accept-requires-clause-promised : goal.accept-requires-clause-promised
accept-requires-clause-promised c = (ready (goal.at.accept-requires-clause-promised c).After-place_of c.index-slots-place_of.result).some

pub accept-requires-clause-ahead : goal.accept-requires-clause-ahead
accept-requires-clause-ahead c = (ready (goal.at.accept-requires-clause-ahead c).After-place_of c.index-slots-place_of.result).ahead

pub accept-requires-clause-small : goal.accept-requires-clause-small
accept-requires-clause-small c = (ready (goal.at.accept-requires-clause-small c).After-place_of c.index-slots-place_of.result).small
