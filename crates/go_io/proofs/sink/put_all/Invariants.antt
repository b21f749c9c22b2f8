-- After each put the sink has taken the first bytes of the piece.
use Rattle.std.proofs.Common.{length, ◌-◌, take, ◌≤◌}
use Rattle.go_io.specs.Sink.{Takes}
use Rattle.go_io.proofs.sink.put_all.Given as goal

abbrev pub invariant-loop-done : goal.invariant-loop-done
invariant-loop-done g l = record {
  within : l.done ≤ length l.bytes;
  taken : Takes (g.K.Sink.stands l.initial.sink) (g.K.Sink.stands l.sink) (take l.done l.bytes);
  later : (g.K.Sink.stands l.initial.sink).faults ≤ (g.K.Sink.stands l.sink).faults;
}

abbrev pub decreases-loop-done : goal.decreases-loop-done
decreases-loop-done g l = length l.bytes - l.done
