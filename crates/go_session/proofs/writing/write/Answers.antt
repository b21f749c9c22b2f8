-- The loop of `write`.
use Rattle.std.proofs.Common.{arith, ◌∙◌}
use Rattle.go_session.proofs.WritingLemmas.{text_start, text_more, text_all}
use Rattle.go_session.proofs.writing.write.Goals as goal

pub loop-reply-init : goal.loop-reply-init
loop-reply-init c = c.in_ok-put_heading.ensures.ok ∙ text_start c.args.out.now.items c.args.number

pub loop-reply-preserved : goal.loop-reply-preserved
loop-reply-preserved c =
    c.in_ok-render.ensures.ok
    ∙ text_more c.args.out.now.items c.loop-reply.out.items c.args.number c.args.replies.now
    c.loop-reply.reply-index c.reply-item.result c.loop-reply-test.true c.reply-item.is c.loop-reply.invariant

pub returns : goal.returns
returns c = text_all c.args.out.now.items c.loop-reply.out.items c.args.number c.args.replies.now c.loop-reply.reply-index (omega arith) c.loop-reply.invariant
