-- `replay`: the events so far were done and answered, and there is room for the other answers.
use Rattle.std.proofs.Common.{◌+◌, ◌-◌, ◌≤◌, length, vec_len}
use Rattle.std.specs.Prelude.{vec_capacity}
use Rattle.go_core.proofs.Runs.{Replayed}
use Rattle.go_core.proofs.run.replay.Given as goal

abbrev pub invariant-loop-event : goal.invariant-loop-event
invariant-loop-event l = Replayed l.initial.core l.core l.events l.initial.outs.items l.outs.items l.event-index
    × (vec_len l.outs + (length l.events - l.event-index) ≤ vec_capacity l.outs)
