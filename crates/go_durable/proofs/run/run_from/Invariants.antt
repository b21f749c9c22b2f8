-- The loop of `run_from`.
use Rattle.std.proofs.Common.{◌-◌}
use Rattle.go_durable.specs.Runs.{RunsFrom}
use Rattle.go_durable.proofs.run.run_from.Given as goal

-- so far it is a run that fits
abbrev pub invariant-loop-run : goal.invariant-loop-run
invariant-loop-run l = RunsFrom l.places l.at l.b l.most l.run

abbrev pub decreases-loop-run : goal.decreases-loop-run
decreases-loop-run l = l.b - l.run.upto
