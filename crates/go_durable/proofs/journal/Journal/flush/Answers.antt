-- The loop of `flush`.
use Rattle.std.proofs.Common.{◌≡◌, ◌++◌, length, take-append-drop, sym, ap, arith, length-take}
use Rattle.go_durable.proofs.Journals.{flushed_on, flushed_stop}
use Rattle.go_durable.proofs.journal.Journal.flush.Goals as goal

pub returns-in-Err-clause-keeps : goal.returns-in-Err-clause-keeps
returns-in-Err-clause-keeps g c =
    let are : c.loop-rest.rest.now ≡ c.split_at.result.0.now ++ c.split_at.result.1.now =
    rw (c.split_at.ensures.front, c.split_at.ensures.back) (sym (take-append-drop c.min.result c.loop-rest.rest.now)) in
    flushed_stop g.D.Disk.device c.args.edges.now c.split_at.result.0.now c.split_at.result.1.now c.loop-rest.rest.now c.args.self c.in-Err.flushed.journal
    c.loop-rest.log are c.loop-rest.invariant c.in-Err.ensures.0

pub loop-rest-preserved : goal.loop-rest-preserved
loop-rest-preserved g c =
    let are : c.loop-rest.rest.now ≡ c.split_at.result.0.now ++ c.split_at.result.1.now =
    rw (c.split_at.ensures.front, c.split_at.ensures.back) (sym (take-append-drop c.min.result c.loop-rest.rest.now)) in
    flushed_on g.D.Disk.device c.args.edges.now c.split_at.result.0.now c.split_at.result.1.now c.loop-rest.rest.now c.args.self c.loop-rest.log
    c.in-Ok.longer are c.loop-rest.invariant
    (grind arith) (omega (arith, ap length c.split_at.ensures.front, length-take c.min.result c.loop-rest.rest.now)) c.in-Ok.ensures.0 c.in-Ok.ensures.1
