-- What a run of scripts leads to.
use Rattle.std.proofs.Common.{◌≡◌, List, Some, sym, subst}
use Rattle.go_word.specs.declared.edge.Edge.{Edge}
use Rattle.go_run.specs.Driving.{tasks_in}
use Rattle.go_run.specs.Ran.{RanTasks}
use Rattle.go_run.specs.Reading.{IsReady}
use Rattle.go_run.specs.Run.{run_over, shelf_with}
use Rattle.go_run.specs.Work.Work.{driving}
use Rattle.go_run.proofs.CauseLemmas.{task_causes, refusal_causes}
use Rattle.go_run.proofs.RunLemmas.{ready_in, ran_tasks}
use Rattle.go_run.proofs.top.run_with.Goals as goal

pub run_tasks-requires-clause-ready : goal.run_tasks-requires-clause-ready
run_tasks-requires-clause-ready g c =
    let reads = c.in-Ok.ensures.read.reads in
    subst (λ (l : List (List Edge)). IsReady c.args.setup.vertices (tasks_in l c.in-Ok.sessions.items) l c.in-Ok.sessions.items) (sym c.deref.ensures.value)
    (ready_in c.args.setup.vertices reads.0 c.read_scripts.new.loads.items c.in-Ok.sessions.items reads.2)

pub returns-in-Ok-clause-ran : goal.returns-in-Ok-clause-ran
returns-in-Ok-clause-ran g c =
    let run = run_over g.D.Disk.device c.args.setup c.args.disk (g.K.Sink.stands c.args.sink.now) in
    ran_tasks run (driving c.args.names.now) (g.H.Shelf.texts c.args.shelf.now) c.read_scripts.new.loads.items c.in-Ok.sessions.items
    (g.K.Sink.stands c.run_tasks.new.sink) c.run_tasks.result.disk c.run_tasks.result.status c.in-Ok.ensures.read
    (subst (λ (l : List (List Edge)).
    RanTasks run (tasks_in l c.in-Ok.sessions.items) (g.K.Sink.stands c.run_tasks.new.sink) c.run_tasks.result.disk c.run_tasks.result.status)
    c.deref.ensures.value c.run_tasks.ensures.ran)

pub returns-in-Ok-clause-causes : goal.returns-in-Ok-clause-causes
returns-in-Ok-clause-causes g c =
    let run = run_over g.D.Disk.device c.args.setup c.args.disk (g.K.Sink.stands c.args.sink.now) in
    let ran = c.run_tasks.ensures in
    task_causes run (driving c.args.names.now) c.read_scripts.new.loads.items c.in-Ok.sessions.items
    (shelf_with (g.H.Shelf.texts c.args.shelf.now) (g.H.Shelf.faults c.args.shelf.now))
    (shelf_with (g.H.Shelf.texts c.read_scripts.new.shelf) (g.H.Shelf.faults c.read_scripts.new.shelf))
    (g.K.Sink.stands c.run_tasks.new.sink) c.run_tasks.result.disk c.run_tasks.result.status c.in-Ok.ensures.read
    (subst (λ (l : List (List Edge)).
    RanTasks run (tasks_in l c.in-Ok.sessions.items) (g.K.Sink.stands c.run_tasks.new.sink) c.run_tasks.result.disk c.run_tasks.result.status)
    c.deref.ensures.value ran.ran)
    c.in-Ok.ensures.same (record { shelf_later = c.in-Ok.ensures.later; sink_later = ran.sink_later; disk_later = ran.disk_later })
    (ran.write_fault, ran.disk_fault) ran.no_blunder

pub returns-clause-causes : goal.returns-clause-causes
returns-clause-causes g c =
    refusal_causes (run_over g.D.Disk.device c.args.setup c.args.disk (g.K.Sink.stands c.args.sink.now)) (driving c.args.names.now)
    c.read_scripts.new.loads.items
    (shelf_with (g.H.Shelf.texts c.args.shelf.now) (g.H.Shelf.faults c.args.shelf.now))
    (shelf_with (g.H.Shelf.texts c.read_scripts.new.shelf) (g.H.Shelf.faults c.read_scripts.new.shelf))
    c.in-Err.status c.in-Err.ensures.read c.in-Err.ensures.same c.in-Err.ensures.later c.in-Err.ensures.fault
