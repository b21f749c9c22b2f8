-- The loops of `count_all`, by the lemmas.
use Rattle.std.proofs.Common.{◌≡◌, ◌++◌, ◌+◌, ◌∙◌, [], ◌∷◌, length, get_or, take, arith}
use Rattle.std.proofs.lemmas.List.{length-replicate, take_more}
use Rattle.go_net.specs.Net.{net_of}
use Rattle.go_net.specs.Tally.{additions}
use Rattle.go_net.proofs.TallyLemmas.{IsTally-none, IsTally-room}
use Rattle.go_net.proofs.WordLemmas.{IsTally-added, IsTally-deleted}
use Rattle.go_net.proofs.count.count_all.Goals as goal
use Rattle.go_net.proofs.count.count_all.Goals.{then-edge, else-edge}

pub loop-d-init : goal.loop-d-init
loop-d-init c = record {
  present = rw c.requires.present (simp length-replicate);
  removed = rw c.requires.removed (simp length-replicate);
  tally = rw (c.requires.present, c.requires.removed) (IsTally-none c.args.targets.now (length c.args.targets.now) (length c.args.targets.now));
}

pub loop-d-preserved : goal.loop-d-preserved
loop-d-preserved c =
    let more : take (c.loop-d.d-index + 1) c.args.base.now ≡ take c.loop-d.d-index c.args.base.now ++ get_or c.args.base.now c.loop-d.d-index 0 ∷ [] =
    take_more c.args.base.now c.loop-d.d-index 0 (omega arith) in
    record {
      present = c.add.auto.present ∙ c.loop-d.invariant.present;
      removed = c.loop-d.invariant.removed;
      tally = rw more (c.add.ensures c.args.removed.now (take c.loop-d.d-index c.args.base.now)
          (take c.loop-d.d-index c.args.base.now) c.loop-d.invariant.tally);
    }

pub delete-requires-clause-room : goal.delete-requires-clause-room
delete-requires-clause-room c =
    let room = IsTally-room c.args.targets.now c.loop-word.present c.loop-word.removed c.args.base.now c.args.tail.now
    (net_of c.args.base.now (take c.loop-word.word-index c.args.tail.now)) c.decode-edge.result.dst c.loop-word.word-index c.loop-word.invariant.tally in
    omega arith

pub add-requires-else-edge-clause-room : goal.add-requires-else-edge-clause-room
add-requires-else-edge-clause-room c =
    let room = IsTally-room c.args.targets.now c.loop-word.present c.loop-word.removed c.args.base.now c.args.tail.now
    (net_of c.args.base.now (take c.loop-word.word-index c.args.tail.now)) c.decode-edge.result.dst c.loop-word.word-index c.loop-word.invariant.tally in
    omega arith

pub loop-word-preserved : goal.loop-word-preserved
loop-word-preserved c = elim c.if-edge.branch [
  | then-edge w ↦ record {
    present = c.if-edge.auto.present ∙ c.loop-word.invariant.present;
    removed = c.if-edge.auto.removed ∙ c.loop-word.invariant.removed;
    tally = rw (
      w.present-is,
      w.removed-is,
    ) (IsTally-deleted c.args.targets.now w.delete.new.present w.delete.new.removed c.args.base.now c.args.tail.now
        c.loop-word.word-index c.decode-edge.result (omega arith) c.decode-edge.ensures w.if-edge.true (w.delete.ensures (c.args.base.now
        ++ additions (take c.loop-word.word-index c.args.tail.now))
        (net_of c.args.base.now (take c.loop-word.word-index c.args.tail.now)) c.loop-word.invariant.tally));
  }
  | else-edge w ↦ record {
    present = c.if-edge.auto.present ∙ c.loop-word.invariant.present;
    removed = c.if-edge.auto.removed ∙ c.loop-word.invariant.removed;
    tally = rw (
      w.present-is,
      w.removed-is,
    ) (IsTally-added c.args.targets.now w.add-else-edge.new.present c.loop-word.removed c.args.base.now c.args.tail.now
        c.loop-word.word-index c.decode-edge.result (omega arith) c.decode-edge.ensures w.if-edge.false
        (w.add-else-edge.ensures c.loop-word.removed (c.args.base.now
        ++ additions (take c.loop-word.word-index c.args.tail.now))
        (net_of c.args.base.now (take c.loop-word.word-index c.args.tail.now)) c.loop-word.invariant.tally));
  }
]
