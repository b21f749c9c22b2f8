-- `append_run`: the file was taken, may be appended to, and goes back.
use Rattle.std.proofs.Common.{◌+◌, length, sym, ap, ◌∙◌, arith, subst}
use Rattle.go_rule.specs.Turns.{CanGive}
use Rattle.go_rule.specs.Views.{frame_of}
use Rattle.go_turns.proofs.Handing.{told_of, view_is}
use Rattle.go_turns.proofs.Handed.{took, may_go, went}
use Rattle.go_piece.specs.Meanings.{meaning_of}
use Rattle.go_workers.specs.Bringing.{HasAppendedPiece, IsFileInHand}
use Rattle.go_workers.specs.Turns.{raised_by, HasRead}
use Rattle.go_workers.proofs.FileTurns.{hand_raised, hand_taking, read_raised, flag_raised, notes_raised, filed, stopped}
use Rattle.go_workers.proofs.FilesGiven.{file_in_hand}
use Rattle.go_workers.proofs.Served.{read_taking}
use Rattle.go_workers.proofs.flushing.append_run.Goals as goal

pub give-requires-clause-may : goal.give-requires-clause-may
give-requires-clause-may g c =
    let device = g.D.Disk.device in
    let m = meaning_of device in
    let ring = c.args.ring.now in
    let f = frame_of ring.table.shared.key in
    let place = ring.shards in
    let from = c.args.from in
    let run = c.args.run.now in
    let me = c.args.seat.now.me in
    let now = c.take.new.seat.me in
    let then = c.raise_fault.new.seat.me in
    let part = c.lift-part.result.part in
    let piece = c.appended-piece.result.piece in
    let stop = c.appended-piece.result.stop in
    let takes = c.take.ensures.takes in
    let raised = c.raise_fault.ensures.raised in
    let taken = took m f place c.take.result c.back.result c.lift-part.result.key part piece me now then then takes c.lift-part.ensures.part
    c.lift-part.ensures.key c.back.ensures.key c.back.ensures.part in
    let view = view_is m f place part me now taken in
    let shards = ring.shards_is in
    let base = taken.turn.about.0 in
    let hand = subst (λ d. IsFileInHand device d place part) (sym view)
    (hand_taking device me.0 place part (file_in_hand device f me.0 place from run part (omega arith) base (told_of m f place part me now taken))) in
    let read = subst (HasRead from run) (sym view) (read_taking place from run part me.0 c.requires.read) in
    may_go m f place c.take.result c.back.result c.lift-part.result.key part piece me now then then takes c.lift-part.ensures.part c.lift-part.ensures.key
    c.back.ensures.key c.back.ensures.part (ap (λ z. z.0.stake.notes) raised ∙ notes_raised device now.0 stop) (ap (λ z. z.1) raised)
    (subst (λ d. CanGive m f d place part piece) (sym (ap (λ z. z.0) raised))
    (c.appended-piece.ensures.gives f (raised_by stop now.0) place (omega arith) (hand_raised device now.0 place stop part hand)
    (read_raised device now.0 stop from run read) (flag_raised device now.0 stop)))

pub returns-in-None-clause-filed : goal.returns-in-None-clause-filed
returns-in-None-clause-filed g c =
    let device = g.D.Disk.device in
    let m = meaning_of device in
    let ring = c.args.ring.now in
    let f = frame_of ring.table.shared.key in
    let place = ring.shards in
    let upto = c.args.from + length c.args.run.now in
    let me = c.args.seat.now.me in
    let now = c.take.new.seat.me in
    let then = c.raise_fault.new.seat.me in
    let after = c.give.new.seat.me in
    let part = c.lift-part.result.part in
    let piece = c.appended-piece.result.piece in
    let takes = c.take.ensures.takes in
    let shards = ring.shards_is in
    filed device f place upto part piece me now then after
    (took m f place c.take.result c.back.result c.lift-part.result.key part piece me now then after takes c.lift-part.ensures.part c.lift-part.ensures.key
    c.back.ensures.key c.back.ensures.part)
    (went m f place c.take.result c.back.result c.lift-part.result.key part piece me now then after takes c.lift-part.ensures.part c.lift-part.ensures.key
    c.back.ensures.key c.back.ensures.part c.give.ensures.gives) (omega arith)
    (c.raise_fault.ensures.raised ∙ ap (λ s. (raised_by s now.0, now.1)) c.in-None.is)
    (subst (HasAppendedPiece device upto part piece) c.in-None.is c.appended-piece.ensures.appended)

pub returns-in-Some-clause-filed : goal.returns-in-Some-clause-filed
returns-in-Some-clause-filed g c =
    let device = g.D.Disk.device in
    let m = meaning_of device in
    let ring = c.args.ring.now in
    let f = frame_of ring.table.shared.key in
    let place = ring.shards in
    let upto = c.args.from + length c.args.run.now in
    let me = c.args.seat.now.me in
    let now = c.take.new.seat.me in
    let then = c.raise_fault.new.seat.me in
    let after = c.give.new.seat.me in
    let part = c.lift-part.result.part in
    let piece = c.appended-piece.result.piece in
    let takes = c.take.ensures.takes in
    let shards = ring.shards_is in
    stopped device f place upto part piece me now then after
    (took m f place c.take.result c.back.result c.lift-part.result.key part piece me now then after takes c.lift-part.ensures.part c.lift-part.ensures.key
    c.back.ensures.key c.back.ensures.part)
    (went m f place c.take.result c.back.result c.lift-part.result.key part piece me now then after takes c.lift-part.ensures.part c.lift-part.ensures.key
    c.back.ensures.key c.back.ensures.part c.give.ensures.gives) (omega arith) (Unit {0}) c.in-Some.why
    (c.raise_fault.ensures.raised ∙ ap (λ s. (raised_by s now.0, now.1)) c.in-Some.is)
    (subst (HasAppendedPiece device upto part piece) c.in-Some.is c.appended-piece.ensures.appended)
