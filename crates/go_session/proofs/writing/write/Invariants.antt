-- The loop of `write`.
use Rattle.std.proofs.Common.{◌≡◌, ◌++◌, take}
use Rattle.go_report.specs.ReplyText.{text_of_session}
use Rattle.go_session.proofs.writing.write.Given as goal

-- the heading and the replies so far were appended
abbrev pub invariant-loop-reply : goal.invariant-loop-reply
invariant-loop-reply l = l.out.items ≡ l.fn.out.items ++ text_of_session l.number (take l.reply-index l.replies)
