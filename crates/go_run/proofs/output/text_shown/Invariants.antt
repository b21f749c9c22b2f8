-- The loop of `text_shown`.
use Rattle.std.proofs.Common.{◌≡◌, take}
use Rattle.go_run.specs.Driving.{text_shown}
use Rattle.go_run.proofs.output.text_shown.Given as goal

-- the text so far is that of the sessions so far
abbrev pub invariant-loop-session : goal.invariant-loop-session
invariant-loop-session l = l.text.items ≡ text_shown (take l.session-index l.sessions) l.durable
