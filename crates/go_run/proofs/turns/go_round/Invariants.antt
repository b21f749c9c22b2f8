-- The loop of `go_round`.
use Rattle.go_run.specs.Driving.{InRound, at_turn}
use Rattle.go_run.proofs.turns.go_round.Given as goal

abbrev pub invariant-loop-i : goal.invariant-loop-i
invariant-loop-i g l = InRound g.D.Disk.device l.loads l.initial.sessions l.initial.store (at_turn l.sessions l.store l.i l.answered)
