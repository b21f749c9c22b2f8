-- One put more.
use Rattle.std.proofs.Common.{arith, length-take, length-drop}
use Rattle.go_io.proofs.SinkLemmas.{Takes-take}
use Rattle.go_io.proofs.sink.put_all.Goals as goal

pub loop-done-preserved : goal.loop-done-preserved
loop-done-preserved g c = record {
  within = omega (arith, simp (length-take, length-drop) at c.in_ok-done.ensures.count.within);
  taken = Takes-take (g.K.Sink.stands c.args.sink.now) (g.K.Sink.stands c.loop-done.sink)
      (g.K.Sink.stands c.put.new.self) c.args.bytes.now c.loop-done.done c.in_ok-done.field-0 c.loop-done.invariant.taken c.in_ok-done.ensures.taken;
  later = omega (arith, c.in_ok-done.ensures.cause.later);
}
