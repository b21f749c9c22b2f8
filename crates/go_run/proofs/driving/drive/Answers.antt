-- What driving sessions comes to.
use Rattle.std.proofs.Common.{◌≡◌, List, length, arith, subst, sym}
use Rattle.go_session.specs.Session.{SessionState}
use Rattle.go_run.specs.Reading.{WaitsForCertain}
use Rattle.go_run.proofs.DrivenLemmas.{driven_slice}
use Rattle.go_run.proofs.driving.drive.Goals as goal

pub answer_all-left-requires-clause-waits : goal.answer_all-left-requires-clause-waits
answer_all-left-requires-clause-waits g c =
    subst (λ (l : List SessionState). WaitsForCertain c.args.loads.now l) (sym c.deref_mut.ensures.value) c.requires.waits

pub returns : goal.returns
returns g c =
    let long : c.args.sessions.len ≡ length c.args.sessions.items = omega (arith, c.args.sessions.ok) in
    driven_slice g.D.Disk.device c.args.loads.now c.args.sessions.items c.deref_mut.result.now c.answer_all-left.new.sessions c.args.sessions.len
    c.args.store c.answer_all-left.result.store c.answer_all-left.result.stop c.finish.result c.deref_mut.ensures.value long c.requires
    c.answer_all-left.ensures c.finish.ensures
