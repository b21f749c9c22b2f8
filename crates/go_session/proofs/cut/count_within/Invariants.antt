-- The loop of `count_within`.
use Rattle.go_script.specs.Commands.{commands_of}
use Rattle.go_session.proofs.CutLemmas.{IsCutAt}
use Rattle.go_session.proofs.cut.count_within.Given as goal

-- the replies so far are shown, and what is kept is that of the walk after them
abbrev pub invariant-loop-i : goal.invariant-loop-i
invariant-loop-i l = IsCutAt l.durable l.first (commands_of l.script) l.replies l.i l.rests
