-- The loop of `quotas_of`.
use Rattle.std.proofs.Common.{◌≡◌, map, take}
use Rattle.go_run.specs.Driving.{quota_in}
use Rattle.go_run.proofs.running.quotas_of.Given as goal

-- the quotas so far are those of the sessions so far
abbrev pub invariant-loop-session : goal.invariant-loop-session
invariant-loop-session l = l.quotas.items ≡ map (quota_in l.loads) (take l.session-index l.sessions)
