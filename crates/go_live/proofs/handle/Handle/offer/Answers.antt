-- `offer`: the ring was looked at, and then the entry was put or the ring was full.
use Rattle.std.proofs.Common.{refl, ◌∙◌, arith}
use Rattle.go_rule.specs.Views.{frame_of}
use Rattle.go_piece.specs.Pieces.{state_in}
use Rattle.go_turns.proofs.Going.{gone_further}
use Rattle.go_live.specs.Handles.{kept_of, stands_in}
use Rattle.go_live.proofs.Handling.{handle_still, met_still}
use Rattle.go_live.proofs.Onward.{sees_more}
use Rattle.go_live.proofs.PutRuns.{put_after, stopped_after}
use Rattle.go_live.proofs.SeatLooks.{gone_looks, looks_hand}
use Rattle.go_live.proofs.Steady.{sees_still}
use Rattle.go_live.proofs.handle.Handle.offer.Goals as goal

pub put-requires-clause-is : goal.put-requires-clause-is
put-requires-clause-is g c =
    let t = c.args.ring.now.table.shared in
    let f = frame_of t.key in
    let h = c.args.self.now in
    let d = h.seat.me.0 in
    let then = c.room-room.new.seat.me in
    let last = c.refresh.new.seat.me.0 in
    let looks = c.room-room.ensures.looks in
    let on = gone_looks f state_in t.table_id.slots h.seat.me then looks.0 looks.1 looks.2 in
    let all = gone_further f d then.0 last on c.refresh.ensures.on in
    let to = c.requires.is.steady.kept.fronts.to in
    handle_still t.table_id t.key h _
    (record {
      table_is = c.refresh.ensures.stays.0 ∙ c.room-room.ensures.stays.0;
      id_is = c.refresh.ensures.stays.1 ∙ c.room-room.ensures.stays.1;
      hand = c.refresh.ensures.hand ∙ looks_hand f state_in t.table_id.slots h.seat.me then looks.0 looks.1 looks.2;
      words = refl;
      numbers = (refl, refl);
      next = refl;
      held = refl;
    })
    all (omega arith) c.requires.is
    (sees_still h.seen d last all.knows to)
    (c.refresh.ensures.knows h.seen (sees_still h.seen d then.0 on.knows to).seen)
    (met_still h.met d last all.knows c.requires.is.steady.kept.met)

pub returns-in-Full-clause-is : goal.returns-in-Full-clause-is
returns-in-Full-clause-is g c =
    let t = c.args.ring.now.table.shared in
    let f = frame_of t.key in
    let h = c.args.self.now in
    let d = h.seat.me.0 in
    let then = c.room-room.new.seat.me in
    let last = c.refresh.new.seat.me.0 in
    let looks = c.room-room.ensures.looks in
    let on = gone_looks f state_in t.table_id.slots h.seat.me then looks.0 looks.1 looks.2 in
    let all = gone_further f d then.0 last on c.refresh.ensures.on in
    let to = c.requires.is.steady.kept.fronts.to in
    handle_still t.table_id t.key h _
    (record {
      table_is = c.refresh.ensures.stays.0 ∙ c.room-room.ensures.stays.0;
      id_is = c.refresh.ensures.stays.1 ∙ c.room-room.ensures.stays.1;
      hand = c.refresh.ensures.hand ∙ looks_hand f state_in t.table_id.slots h.seat.me then looks.0 looks.1 looks.2;
      words = refl;
      numbers = (refl, refl);
      next = refl;
      held = refl;
    })
    all (omega arith) c.requires.is
    (sees_still h.seen d last all.knows to)
    (c.refresh.ensures.knows h.seen (sees_still h.seen d then.0 on.knows to).seen)
    (met_still h.met d last all.knows c.requires.is.steady.kept.met)

pub returns-in-Ok-clause-offers : goal.returns-in-Ok-clause-offers
returns-in-Ok-clause-offers g c =
    let t = c.args.ring.now.table.shared in
    let f = frame_of t.key in
    let h = c.args.self.now in
    let d = h.seat.me.0 in
    let then = c.room-room.new.seat.me in
    let last = c.refresh.new.seat.me.0 in
    let looks = c.room-room.ensures.looks in
    let on = gone_looks f state_in t.table_id.slots h.seat.me then looks.0 looks.1 looks.2 in
    let all = gone_further f d then.0 last on c.refresh.ensures.on in
    let looked = record h { seat = c.refresh.new.seat } in
    put_after (stands_in t.key h) (stands_in t.key looked) (stands_in t.key c.put.new.self) c.args.edge c.in-Ok.position
    (sees_more t.key.layout.ring (kept_of h) (kept_of looked) d last f all (omega arith) c.requires.is.steady.kept.fronts.to.there
    (sees_still h.seen d last all.knows c.requires.is.steady.kept.fronts.to).there (λ met. met) refl)
    c.in-Ok.ensures.puts

pub returns-in-Err-clause-offers : goal.returns-in-Err-clause-offers
returns-in-Err-clause-offers g c =
    let t = c.args.ring.now.table.shared in
    let f = frame_of t.key in
    let h = c.args.self.now in
    let d = h.seat.me.0 in
    let then = c.room-room.new.seat.me in
    let last = c.refresh.new.seat.me.0 in
    let looks = c.room-room.ensures.looks in
    let on = gone_looks f state_in t.table_id.slots h.seat.me then looks.0 looks.1 looks.2 in
    let all = gone_further f d then.0 last on c.refresh.ensures.on in
    let looked = record h { seat = c.refresh.new.seat } in
    stopped_after (stands_in t.key h) (stands_in t.key looked) (stands_in t.key c.put.new.self) c.in-Err.why
    (sees_more t.key.layout.ring (kept_of h) (kept_of looked) d last f all (omega arith) c.requires.is.steady.kept.fronts.to.there
    (sees_still h.seen d last all.knows c.requires.is.steady.kept.fronts.to).there (λ met. met) refl)
    c.in-Err.ensures.puts
