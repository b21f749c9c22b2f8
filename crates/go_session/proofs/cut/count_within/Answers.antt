-- The loop of `count_within`.
use Rattle.std.proofs.Common.{take, refl, sym, ◌∙◌}
use Rattle.std.proofs.lemmas.Option.{slice_get_read}
use Rattle.go_script.specs.Commands.{commands_of}
use Rattle.go_session.specs.Walk.{row_of, walked}
use Rattle.go_session.proofs.CutLemmas.{cut_begins, cut_goes_on, cut_ends, cut_is_all, seen_small}
use Rattle.go_session.proofs.cut.count_within.Goals as goal

pub loop-i-init : goal.loop-i-init
loop-i-init c = cut_begins c.args.durable c.args.first (commands_of c.args.script.now) c.args.replies.now

pub within-requires : goal.within-requires
within-requires c = (c.command.ensures.script.each c.loop-i.i c.command.result.now c.command.ensures.command).names

pub returns-then-not-within-clause-shown : goal.returns-then-not-within-clause-shown
returns-then-not-within-clause-shown c =
    cut_ends c.args.durable c.args.first (commands_of c.args.script.now) c.args.replies.now c.loop-i.i c.loop-i.rests c.command.result.now
    c.index-replies-i.result c.loop-i.invariant c.command.ensures.command
    (slice_get_read c.args.replies.now _ c.loop-i.i c.index-replies-i.result refl c.loop-i-test.true c.index-replies-i.is)
    (sym (c.within.ensures (walked c.args.first (take c.loop-i.i c.args.replies.now)) c.loop-i.invariant.tracks) ∙ c.if-not-within.true)

pub note-requires : goal.note-requires
note-requires c =
    let walk = walked c.args.first (take c.loop-i.i c.args.replies.now) in
    seen_small walk (row_of c.command.result.now) c.index-replies-i.result c.args.durable c.loop-i.rests.first c.loop-i.invariant.tracks.first
    (sym (c.within.ensures walk c.loop-i.invariant.tracks) ∙ c.if-not-within.false) c.ranges.durable.fits

pub loop-i-preserved : goal.loop-i-preserved
loop-i-preserved c =
    let walk = walked c.args.first (take c.loop-i.i c.args.replies.now) in
    cut_goes_on c.args.durable c.args.first (commands_of c.args.script.now) c.args.replies.now c.loop-i.i c.loop-i.rests c.note.new.self
    c.command.result.now c.index-replies-i.result c.loop-i.invariant c.command.ensures.command
    (slice_get_read c.args.replies.now _ c.loop-i.i c.index-replies-i.result refl c.loop-i-test.true c.index-replies-i.is)
    (sym (c.within.ensures walk c.loop-i.invariant.tracks) ∙ c.if-not-within.false)
    (c.note.ensures walk c.loop-i.invariant.tracks)

pub returns-clause-shown : goal.returns-clause-shown
returns-clause-shown c =
    cut_is_all c.args.durable c.args.first (commands_of c.args.script.now) c.args.replies.now c.loop-i.i c.loop-i.rests c.loop-i.invariant
    c.loop-i-test.false
