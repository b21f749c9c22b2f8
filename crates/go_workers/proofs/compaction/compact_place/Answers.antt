-- `compact_place`: the shard was taken, is compacted by the archived front that was loaded then, and goes back.
use Rattle.std.proofs.Common.{◌≡◌, sym, ap, ◌∙◌, arith, subst}
use Rattle.atomic_table.specs.Table.{step}
use mathlib.Core.Option.{none}
use Rattle.go_rule.specs.Views.{frame_of}
use Rattle.go_turns.specs.Holding.{Takes}
use Rattle.go_turns.proofs.Going.{gone_archived}
use Rattle.go_turns.proofs.Handing.{told_of, view_is}
use Rattle.go_turns.proofs.Handed.{took, may_go, went, on_ok}
use Rattle.go_piece.specs.Pieces.{state_in, OnShard}
use Rattle.go_piece.specs.Meanings.{meaning_of, IsShardInHand}
use Rattle.go_workers.specs.Bringing.{IsCompactedPiece}
use Rattle.go_workers.proofs.Served.{turned_with}
use Rattle.go_piece.proofs.Unchanged.{piece_in_hand}
use Rattle.go_workers.proofs.ShardTurns.{cut_known, compacts_at}
use Rattle.go_workers.proofs.compaction.compact_place.Goals as goal

pub compacted-piece-requires : goal.compacted-piece-requires
compacted-piece-requires g c =
    let device = g.D.Disk.device in
    let m = meaning_of device in
    let ring = c.args.ring.now in
    let t = ring.table.shared in
    let f = frame_of t.key in
    let place = c.args.place in
    let me = c.args.seat.now.me in
    let now = c.take.new.seat.me in
    let then = c.archived-archived.new.seat.me in
    let part = c.lift-part.result.part in
    let taken = subst (λ p. Takes m f place p me now) (sym c.lift-part.ensures.part) c.take.ensures.takes.1 in
    let shards = ring.shards_is in
    let less = c.requires.place in
    let base = taken.turn.about.0 in
    cut_known device f t.table_id.slots place c.archived-archived.result me now then then part (omega arith) base (told_of m f place part me now taken) taken
    c.archived-archived.ensures.tells

pub give-requires-clause-may : goal.give-requires-clause-may
give-requires-clause-may g c =
    let device = g.D.Disk.device in
    let m = meaning_of device in
    let ring = c.args.ring.now in
    let f = frame_of ring.table.shared.key in
    let place = c.args.place in
    let me = c.args.seat.now.me in
    let now = c.take.new.seat.me in
    let then = c.archived-archived.new.seat.me in
    let part = c.lift-part.result.part in
    let piece = c.compacted-piece.result.piece in
    let takes = c.take.ensures.takes in
    let loads = c.archived-archived.ensures.tells.becomes in
    let taken = took m f place c.take.result c.back.result c.lift-part.result.key part piece me now then then takes c.lift-part.ensures.part
    c.lift-part.ensures.key c.back.ensures.key c.back.ensures.part in
    let shards = ring.shards_is in
    let less = c.requires.place in
    let base = taken.turn.about.0 in
    let about : then.0.about ≡ me.0.about = ap (λ z. z.0.about) loads ∙ ap (λ d. d.about) (view_is m f place part me now taken) in
    let known : then.0.core.archived ≡ c.archived-archived.result = ap (λ z. z.0.core.archived) loads in
    let hand = subst (λ a. OnShard (IsShardInHand device a place) part) (sym about)
    (piece_in_hand device f me.0 place part (omega arith) base (told_of m f place part me now taken)) in
    may_go m f place c.take.result c.back.result c.lift-part.result.key part piece me now then then takes c.lift-part.ensures.part c.lift-part.ensures.key
    c.back.ensures.key c.back.ensures.part (ap (λ z. z.0.stake.notes) loads) (ap (λ z. z.1) loads)
    (c.compacted-piece.ensures.gives f then.0 place (omega arith) hand (omega arith))

pub returns-clause-turned : goal.returns-clause-turned
returns-clause-turned g c =
    let m = meaning_of g.D.Disk.device in
    let t = c.args.ring.now.table.shared in
    let f = frame_of t.key in
    let place = c.args.place in
    let me = c.args.seat.now.me in
    let now = c.take.new.seat.me in
    let then = c.archived-archived.new.seat.me in
    let after = c.give.new.seat.me in
    let part = c.lift-part.result.part in
    let piece = c.compacted-piece.result.piece in
    let takes = c.take.ensures.takes in
    let loads = c.archived-archived.ensures.tells in
    (turned_with m f place part piece me now then after
    (took m f place c.take.result c.back.result c.lift-part.result.key part piece me now then after takes c.lift-part.ensures.part c.lift-part.ensures.key
    c.back.ensures.key c.back.ensures.part)
    (gone_archived f (step t.table_id.slots 1 0 0 none) now then c.archived-archived.result state_in loads) (ap (λ z. z.1) loads.becomes)
    (ap (λ z. z.0.stake.stood) loads.becomes)
    (went m f place c.take.result c.back.result c.lift-part.result.key part piece me now then after takes c.lift-part.ensures.part c.lift-part.ensures.key
    c.back.ensures.key c.back.ensures.part c.give.ensures.gives) (λ shard. c.compacted-piece.ensures.pins)).0

pub returns-clause-compacted : goal.returns-clause-compacted
returns-clause-compacted g c =
    let device = g.D.Disk.device in
    let m = meaning_of device in
    let t = c.args.ring.now.table.shared in
    let f = frame_of t.key in
    let place = c.args.place in
    let me = c.args.seat.now.me in
    let now = c.take.new.seat.me in
    let then = c.archived-archived.new.seat.me in
    let after = c.give.new.seat.me in
    let part = c.lift-part.result.part in
    let piece = c.compacted-piece.result.piece in
    let takes = c.take.ensures.takes in
    on_ok c.compacted-piece.result.done
    (λ (is : IsCompactedPiece c.archived-archived.result part piece).
    compacts_at device f t.table_id.slots place c.archived-archived.result me now then after part piece
    (took m f place c.take.result c.back.result c.lift-part.result.key part piece me now then after takes c.lift-part.ensures.part c.lift-part.ensures.key
    c.back.ensures.key c.back.ensures.part) c.archived-archived.ensures.tells is
    (went m f place c.take.result c.back.result c.lift-part.result.key part piece me now then after takes c.lift-part.ensures.part c.lift-part.ensures.key
    c.back.ensures.key c.back.ensures.part c.give.ensures.gives)) c.compacted-piece.ensures.compacted
