-- `compact`: the seat has gone on by turns of the shards.
use Rattle.std.proofs.Common.{refl, ◌∙◌, arith}
use Rattle.go_rule.specs.Views.{frame_of}
use Rattle.go_turns.proofs.Going.{gone_further}
use Rattle.go_live.proofs.Handling.{handle_still, met_still}
use Rattle.go_live.proofs.Steady.{sees_still}
use Rattle.go_live.proofs.handle.Handle.compact.Goals as goal

pub returns-in-Ok-clause-is : goal.returns-in-Ok-clause-is
returns-in-Ok-clause-is g c =
    let t = c.args.ring.now.table.shared in
    let f = frame_of t.key in
    let d = c.args.self.now.seat.me.0 in
    let then = c.compact_all-compacted.new.seat.me.0 in
    let last = c.refresh.new.seat.me.0 in
    let turned = c.compact_all-compacted.ensures.turned in
    let stays = c.compact_all-compacted.ensures.stays in
    let on = gone_further f d then last turned.gone c.refresh.ensures.on in
    let to = c.requires.is.steady.kept.fronts.to in
    handle_still t.table_id t.key c.args.self.now _
    (record {
      table_is = c.refresh.ensures.stays.0 ∙ stays.0;
      id_is = c.refresh.ensures.stays.1 ∙ stays.1;
      hand = c.refresh.ensures.hand ∙ turned.hand;
      words = refl;
      numbers = (refl, refl);
      next = refl;
      held = refl;
    })
    on (omega arith) c.requires.is
    (sees_still c.args.self.now.seen d last on.knows to)
    (c.refresh.ensures.knows c.args.self.now.seen (sees_still c.args.self.now.seen d then turned.gone.knows to).seen)
    (met_still c.args.self.now.met d last on.knows c.requires.is.steady.kept.met)

pub returns-in-Err-clause-is : goal.returns-in-Err-clause-is
returns-in-Err-clause-is g c =
    let t = c.args.ring.now.table.shared in
    let f = frame_of t.key in
    let d = c.args.self.now.seat.me.0 in
    let then = c.compact_all-compacted.new.seat.me.0 in
    let last = c.refresh.new.seat.me.0 in
    let turned = c.compact_all-compacted.ensures.turned in
    let stays = c.compact_all-compacted.ensures.stays in
    let on = gone_further f d then last turned.gone c.refresh.ensures.on in
    let to = c.requires.is.steady.kept.fronts.to in
    handle_still t.table_id t.key c.args.self.now _
    (record {
      table_is = c.refresh.ensures.stays.0 ∙ stays.0;
      id_is = c.refresh.ensures.stays.1 ∙ stays.1;
      hand = c.refresh.ensures.hand ∙ turned.hand;
      words = refl;
      numbers = (refl, refl);
      next = refl;
      held = refl;
    })
    on (omega arith) c.requires.is
    (sees_still c.args.self.now.seen d last on.knows to)
    (c.refresh.ensures.knows c.args.self.now.seen (sees_still c.args.self.now.seen d then turned.gone.knows to).seen)
    (met_still c.args.self.now.met d last on.knows c.requires.is.steady.kept.met)
