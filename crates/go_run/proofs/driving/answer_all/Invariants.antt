-- The loop of `answer_all`.
use Rattle.std.proofs.Common.{◌≡◌}
use Rattle.go_run.specs.Driving.{CanAllTurn, GoOnOver}
use Rattle.go_run.specs.Reading.{WaitsForCertain}
use Rattle.go_run.specs.Turns.{commands_left}
use Rattle.go_run.proofs.driving.answer_all.Given as goal

-- the sessions went on over the one store and can go on further, and none waits for more than is certain to come
abbrev pub invariant-loop-store : goal.invariant-loop-store
invariant-loop-store g l = record {
  can : CanAllTurn g.D.Disk.device l.loads l.sessions l.store;
  onward : GoOnOver l.initial.sessions l.sessions l.initial.store l.store;
  waits : WaitsForCertain l.loads l.sessions;
}

-- the commands that are left
abbrev pub decreases-loop-store : goal.decreases-loop-store
decreases-loop-store g l = commands_left l.sessions
