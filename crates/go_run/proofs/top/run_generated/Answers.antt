-- What a run over generated entries leads to.
use Rattle.std.proofs.Common.{◌≡◌, ◌∙◌, ℕ, List, [], Option, Some, None, Err, refl, sym, subst, arith}
use Rattle.go_word.specs.declared.edge.Edge.{Edge}
use Rattle.go_run.specs.Driving.{tasks_in}
use Rattle.go_run.specs.Input.{Texts}
use Rattle.go_run.specs.Ran.{RanTasks}
use Rattle.go_run.specs.Reading.{IsReady, ReadsWork}
use Rattle.go_run.specs.Run.{run_over}
use Rattle.go_run.specs.Work.Work.{generating}
use Rattle.go_run.specs.declared.status.Status.{Status}
use Rattle.go_run.specs.declared.status.Status.TheVariants.{Memory, ReadFault}
use Rattle.go_run.proofs.CauseLemmas.{task_causes, refusal_causes}
use Rattle.go_run.proofs.RunLemmas.{ready_in, ran_tasks, ran_refusal}
use Rattle.go_run.proofs.top.run_generated.Goals as goal

-- want of memory tells nothing
no_memory : (v count seed : ℕ) (shelf : Option Texts) (loads : List (List Edge)) (status : Status) → status ≡ Memory →
    ReadsWork v shelf (generating count seed) loads (Err status)
no_memory v count seed shelf loads status is =
    subst (λ (s : Status). ReadsWork v shelf (generating count seed) loads (Err s)) (sym is)
    (record { read = record { files = []; named = λ name. None }; may_read = tt; reads = tt })

pub run_tasks-requires-clause-ready : goal.run_tasks-requires-clause-ready
run_tasks-requires-clause-ready g c =
    let reads = (c.in-Ok.ensures None).reads in
    subst (λ (l : List (List Edge)). IsReady c.args.setup.vertices (tasks_in l c.in-Ok.sessions.items) l c.in-Ok.sessions.items) (sym c.deref.ensures.value)
    (ready_in c.args.setup.vertices reads.0 c.generate_script.new.loads.items c.in-Ok.sessions.items reads.2)

pub returns-in-Ok-clause-ran : goal.returns-in-Ok-clause-ran
returns-in-Ok-clause-ran g c shelf =
    let run = run_over g.D.Disk.device c.args.setup c.args.disk (g.K.Sink.stands c.args.sink.now) in
    ran_tasks run (generating c.args.edges c.args.seed) shelf c.generate_script.new.loads.items c.in-Ok.sessions.items
    (g.K.Sink.stands c.run_tasks.new.sink) c.run_tasks.result.disk c.run_tasks.result.status (c.in-Ok.ensures shelf)
    (subst (λ (l : List (List Edge)).
    RanTasks run (tasks_in l c.in-Ok.sessions.items) (g.K.Sink.stands c.run_tasks.new.sink) c.run_tasks.result.disk c.run_tasks.result.status)
    c.deref.ensures.value c.run_tasks.ensures.ran)

pub returns-in-Ok-clause-causes : goal.returns-in-Ok-clause-causes
returns-in-Ok-clause-causes g c shelf =
    let run = run_over g.D.Disk.device c.args.setup c.args.disk (g.K.Sink.stands c.args.sink.now) in
    let ran = c.run_tasks.ensures in
    task_causes run (generating c.args.edges c.args.seed) c.generate_script.new.loads.items c.in-Ok.sessions.items shelf shelf
    (g.K.Sink.stands c.run_tasks.new.sink) c.run_tasks.result.disk c.run_tasks.result.status (c.in-Ok.ensures shelf.texts)
    (subst (λ (l : List (List Edge)).
    RanTasks run (tasks_in l c.in-Ok.sessions.items) (g.K.Sink.stands c.run_tasks.new.sink) c.run_tasks.result.disk c.run_tasks.result.status)
    c.deref.ensures.value ran.ran)
    refl (record { shelf_later = λ name. omega arith; sink_later = ran.sink_later; disk_later = ran.disk_later })
    (ran.write_fault, ran.disk_fault) ran.no_blunder

pub returns-clause-ran : goal.returns-clause-ran
returns-clause-ran g c shelf =
    ran_refusal (run_over g.D.Disk.device c.args.setup c.args.disk (g.K.Sink.stands c.args.sink.now)) (generating c.args.edges c.args.seed) shelf []
    c.in-Err.status (no_memory c.args.setup.vertices c.args.edges c.args.seed shelf [] c.in-Err.status c.in-Err.ensures)

pub returns-clause-causes : goal.returns-clause-causes
returns-clause-causes g c shelf =
    refusal_causes (run_over g.D.Disk.device c.args.setup c.args.disk (g.K.Sink.stands c.args.sink.now)) (generating c.args.edges c.args.seed) [] shelf shelf
    c.in-Err.status (no_memory c.args.setup.vertices c.args.edges c.args.seed shelf.texts [] c.in-Err.status c.in-Err.ensures) refl (λ name. omega arith)
    (λ name is. absurd (let h : Memory ≡ ReadFault name = sym c.in-Err.ensures ∙ is in cc))
