-- What running tasks leads to.
use Rattle.std.proofs.Common.{◌≡◌, ℕ, ◌≤◌, List, length, sum, sum_by, refl, ap, arith, subst, sym, ◌∙◌}
use Rattle.go_api.specs.declared.limits.TheConstants.{LOG_ENTRIES}
use Rattle.go_durable.specs.Recovery.{Recovers}
use Rattle.go_plain.specs.Plain.{AreQuotas}
use Rattle.go_session.specs.Session.{SessionState}
use Rattle.go_run.specs.Driving.{quota_in, tasks_in}
use Rattle.go_run.specs.Input.{count_of}
use Rattle.go_run.specs.Run.{run_over}
use Rattle.go_run.proofs.RunningLemmas.{fits, refused_ran, drive_can, drive_ran, unmade_ran}
use Rattle.go_run.proofs.RunningCounts.{refused_blunders, refused_rose}
use Rattle.go_run.proofs.RunningCounts.{driven_counts, concluded_fault, few_quotas, AreCounted, counted, counted_puts, quotas_fit, made_same}
use Rattle.go_run.proofs.running.run_tasks.Goals as goal

pub quotas_of-requires-clause-few : goal.quotas_of-requires-clause-few
quotas_of-requires-clause-few g c =
    subst (λ (l : List SessionState). sum_by (quota_in c.args.loads.now) l ≤ LOG_ENTRIES) (sym c.deref.ensures.value)
    (few_quotas c.args.setup.vertices c.args.loads.now c.args.sessions.items c.requires.ready)

pub total_of-puts-requires : goal.total_of-puts-requires
total_of-puts-requires g c =
    let is = counted c.args.loads.now c.args.sessions.items c.deref.result.now c.in-Ok.quotas.items c.deref-2.result.now (sum c.deref-2.result.now)
    c.deref.ensures.value c.in-Ok.ensures c.deref-2.ensures.value refl in
    let count = counted_puts c.args.setup.vertices c.args.loads.now c.args.sessions.items c.in-Ok.quotas.items (sum c.deref-2.result.now) c.requires.ready is in
    omega (arith, count, c.requires.ready.can_run.few)

pub overflow_sub-puts : goal.overflow_sub-puts
overflow_sub-puts g c =
    let is = counted c.args.loads.now c.args.sessions.items c.deref.result.now c.in-Ok.quotas.items c.deref-2.result.now c.total_of-puts.result
    c.deref.ensures.value c.in-Ok.ensures c.deref-2.ensures.value c.total_of-puts.ensures in
    let count = counted_puts c.args.setup.vertices c.args.loads.now c.args.sessions.items c.in-Ok.quotas.items c.total_of-puts.result c.requires.ready is in
    omega (arith, count, c.requires.ready.can_run.few)

pub refused-requires : goal.refused-requires
refused-requires g c =
    let is = counted c.args.loads.now c.args.sessions.items c.deref.result.now c.in-Ok.quotas.items c.deref-2.result.now c.total_of-puts.result
    c.deref.ensures.value c.in-Ok.ensures c.deref-2.ensures.value c.total_of-puts.ensures in
    let count = counted_puts c.args.setup.vertices c.args.loads.now c.args.sessions.items c.in-Ok.quotas.items c.total_of-puts.result c.requires.ready is in
    record {
      fits = fits c.args.setup.vertices c.total_of-puts.result (g.D.Disk.device.contents c.args.disk) c.in-Err.fault
          (omega (arith, count, c.requires.ready.can_run.few)) c.in-Err.ensures.answer;
    }

pub returns-in-Err-clause-ran : goal.returns-in-Err-clause-ran
returns-in-Err-clause-ran g c =
    let is = counted c.args.loads.now c.args.sessions.items c.deref.result.now c.in-Ok.quotas.items c.deref-2.result.now c.total_of-puts.result
    c.deref.ensures.value c.in-Ok.ensures c.deref-2.ensures.value c.total_of-puts.ensures in
    let count = counted_puts c.args.setup.vertices c.args.loads.now c.args.sessions.items c.in-Ok.quotas.items c.total_of-puts.result c.requires.ready is in
    refused_ran (run_over g.D.Disk.device c.args.setup c.args.disk (g.K.Sink.stands c.args.sink.now)) c.args.loads.now c.args.sessions.items
    c.total_of-puts.result count c.refused.result.disk c.in-Err.fault c.refused.result.status
    c.in-Err.ensures.answer c.in-Err.ensures.moments c.in-Err.ensures.untouched c.refused.ensures.status c.refused.ensures.disk

pub new-requires-clause-quotas : goal.new-requires-clause-quotas
new-requires-clause-quotas g c =
    let is = counted c.args.loads.now c.args.sessions.items c.deref.result.now c.in-Ok.quotas.items c.deref-2.result.now c.total_of-puts.result
    c.deref.ensures.value c.in-Ok.ensures c.deref-2.ensures.value c.total_of-puts.ensures in
    subst (λ (l : List ℕ). AreQuotas (length c.in-Ok-attach.opened.edges) l) (sym c.deref-3.ensures.value)
    (quotas_fit c.args.setup.vertices c.args.loads.now c.args.sessions.items c.in-Ok.quotas.items c.total_of-puts.result
    (length c.in-Ok-attach.opened.edges) c.requires.ready is c.in-Ok-attach.ensures.answer.answer.few)

pub drive-requires : goal.drive-requires
drive-requires g c =
    let is = counted c.args.loads.now c.args.sessions.items c.deref.result.now c.in-Ok.quotas.items c.deref-2.result.now c.total_of-puts.result
    c.deref.ensures.value c.in-Ok.ensures c.deref-2.ensures.value c.total_of-puts.ensures in
    let count = counted_puts c.args.setup.vertices c.args.loads.now c.args.sessions.items c.in-Ok.quotas.items c.total_of-puts.result c.requires.ready is in
    drive_can (run_over g.D.Disk.device c.args.setup c.args.disk (g.K.Sink.stands c.args.sink.now)) c.args.loads.now c.args.sessions.items
    c.in-Ok-attach.opened c.args.setup
    (record {
      puts = c.total_of-puts.result;
      so_many = count;
      few = omega (arith, count, c.requires.ready.can_run.few);
      same_ring = refl;
      opened = record { answer = c.in-Ok-attach.ensures.answer; log = c.in-Ok-attach.ensures.log; recovers = c.in-Ok-attach.ensures.recovers };
      ready = c.requires.ready;
    })
    c.in-Ok-new.store
    (made_same c.args.loads.now c.args.sessions.items c.in-Ok.quotas.items c.deref-3.result.now c.total_of-puts.result c.in-Ok-attach.opened c.args.setup
    c.in-Ok-new.store is c.deref-3.ensures.value c.in-Ok-new.ensures)

pub returns-in-Ok-new-clause-ran : goal.returns-in-Ok-new-clause-ran
returns-in-Ok-new-clause-ran g c =
    let is = counted c.args.loads.now c.args.sessions.items c.deref.result.now c.in-Ok.quotas.items c.deref-2.result.now c.total_of-puts.result
    c.deref.ensures.value c.in-Ok.ensures c.deref-2.ensures.value c.total_of-puts.ensures in
    let count = counted_puts c.args.setup.vertices c.args.loads.now c.args.sessions.items c.in-Ok.quotas.items c.total_of-puts.result c.requires.ready is in
    rw c.conclude.ensures.disk
    (drive_ran (run_over g.D.Disk.device c.args.setup c.args.disk (g.K.Sink.stands c.args.sink.now)) c.args.loads.now c.args.sessions.items
    c.in-Ok-attach.opened c.args.setup
    (record {
      puts = c.total_of-puts.result;
      so_many = count;
      few = omega (arith, count, c.requires.ready.can_run.few);
      same_ring = refl;
      opened = record { answer = c.in-Ok-attach.ensures.answer; log = c.in-Ok-attach.ensures.log; recovers = c.in-Ok-attach.ensures.recovers };
      ready = c.requires.ready;
    })
    c.drive.result.sessions.items (g.K.Sink.stands c.conclude.new.sink) c.drive.result.stop c.drive.result.finished c.conclude.result.status
    c.in-Ok-new.store
    (made_same c.args.loads.now c.args.sessions.items c.in-Ok.quotas.items c.deref-3.result.now c.total_of-puts.result c.in-Ok-attach.opened c.args.setup
    c.in-Ok-new.store is c.deref-3.ensures.value c.in-Ok-new.ensures)
    c.drive.ensures c.conclude.ensures.concludes)

pub returns-in-Err-new-clause-ran : goal.returns-in-Err-new-clause-ran
returns-in-Err-new-clause-ran g c =
    let is = counted c.args.loads.now c.args.sessions.items c.deref.result.now c.in-Ok.quotas.items c.deref-2.result.now c.total_of-puts.result
    c.deref.ensures.value c.in-Ok.ensures c.deref-2.ensures.value c.total_of-puts.ensures in
    let count = counted_puts c.args.setup.vertices c.args.loads.now c.args.sessions.items c.in-Ok.quotas.items c.total_of-puts.result c.requires.ready is in
    unmade_ran (run_over g.D.Disk.device c.args.setup c.args.disk (g.K.Sink.stands c.args.sink.now)) c.args.loads.now c.args.sessions.items
    c.in-Ok-attach.opened c.args.setup
    (record {
      puts = c.total_of-puts.result;
      so_many = count;
      few = omega (arith, count, c.requires.ready.can_run.few);
      same_ring = refl;
      opened = record { answer = c.in-Ok-attach.ensures.answer; log = c.in-Ok-attach.ensures.log; recovers = c.in-Ok-attach.ensures.recovers };
      ready = c.requires.ready;
    })
    g.met.D.Disk.rules c.in-Err-new.unmade.disk c.in-Err-new.ensures
