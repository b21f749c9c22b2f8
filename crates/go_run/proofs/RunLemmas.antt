-- What a run of the program is, from the reading of what it is to do and the running of its tasks.
use Rattle.std.proofs.Common.{◌≡◌, ℕ, ◌+◌, List, [], ◌∷◌, Option, Some, None, Result, Ok, Err, refl, sym, subst, ap, ◌∙◌, inl, inr}
use Rattle.go_word.specs.declared.edge.Edge.{Edge}
use Rattle.go_io.specs.Sink.{SinkState}
use Rattle.go_script.specs.declared.command.Command.{Command}
use Rattle.go_session.specs.Asked.{lists_of}
use Rattle.go_session.specs.Session.{SessionState}
use Rattle.go_run.specs.Course.{AreOf}
use Rattle.go_run.specs.Driving.{tasks_in}
use Rattle.go_run.specs.Input.{Texts, Read, Task}
use Rattle.go_run.specs.Work.{Work}
use Rattle.go_run.specs.Ran.{RanTasks, EndsEarly, Ran}
use Rattle.go_run.specs.Reading.{ReadsAs, ReadsWork, IsReady}
use Rattle.go_run.specs.Run.{Run}
use Rattle.go_run.specs.declared.status.Status.{Status}
use Rattle.go_run.specs.declared.status.Status.TheVariants.{Words, Script, NoFile, TooMuch, ReadFault, DiskFault, WriteFault, Memory}

-- the tasks of sessions are what they are to do
pub tasks_are : (number : ℕ) (loads : List (List Edge)) (tasks : List Task) (sessions : List SessionState) → AreOf number loads tasks sessions →
    tasks ≡ tasks_in loads sessions
tasks_are number loads [] [] are = refl
tasks_are number loads [] (session ∷ sessions) are = absurd are
tasks_are number loads (task ∷ tasks) [] are = absurd are
tasks_are number loads (task ∷ tasks) (session ∷ sessions) are =
    let one : task ≡ record { commands = session.commands; lists = lists_of loads session.lists } =
    ap (λ (c : List Command). let t : Task = record { commands = c; lists = task.lists } in t) (sym are.1)
    ∙ ap (λ (l : List (List Edge)). let t : Task = record { commands = session.commands; lists = l } in t) (sym are.2) in
    ap (λ (t : Task). t ∷ tasks) one
    ∙ ap (λ (l : List Task). record { commands = session.commands; lists = lists_of loads session.lists } ∷ l)
    (tasks_are (number + 1) loads tasks sessions are.3)

-- sessions that are ready for tasks are so for what they are to do
pub ready_in : (v : ℕ) (tasks : List Task) (loads : List (List Edge)) (sessions : List SessionState) → IsReady v tasks loads sessions →
    IsReady v (tasks_in loads sessions) loads sessions
ready_in v tasks loads sessions ready =
    subst (λ (l : List Task). IsReady v l loads sessions) (tasks_are 1 loads tasks sessions ready.are) ready

-- nothing was read
abbrev nothing_read : Read
nothing_read = record { files = []; named = λ name. None }

-- a run over words that ask for nothing
pub ran_words : {D : Type 0} (run : Run D) (shelf : Option Texts) → Ran run None shelf run.sink run.begun Words
ran_words run shelf = record { read = nothing_read; may_read = tt; ran = inl (record { why = tt; untouched = refl; same_disk = refl }) }

-- a refusal of the reading ends a run early
early : (v : ℕ) (work : Work) (read : Read) (loads : List (List Edge)) (status : Status) → ReadsAs v work read loads (Err status) →
    EndsEarly v (Some work) read status
early v work read loads (Script name line kind) reads = reads
early v work read loads (NoFile name) reads = reads
early v work read loads (TooMuch counted limit) reads = reads
early v work read loads (ReadFault name) reads = reads
early v work read loads Memory reads = tt
early v work read loads _ reads = absurd reads

pub ran_refusal : {D : Type 0} (run : Run D) (work : Work) (shelf : Option Texts) (loads : List (List Edge)) (status : Status) →
    ReadsWork run.vertices shelf work loads (Err status) → Ran run (Some work) shelf run.sink run.begun status
ran_refusal run work shelf loads status reads = record {
  read = reads.read;
  may_read = reads.may_read;
  ran = inl (record { why = early run.vertices work reads.read loads status reads.reads; untouched = refl; same_disk = refl });
}

-- a run whose tasks were run
pub ran_tasks : {D : Type 0} (run : Run D) (work : Work) (shelf : Option Texts) (loads : List (List Edge)) (sessions : List SessionState) (sink : SinkState)
    (ended : D) (status : Status) → ReadsWork run.vertices shelf work loads (Ok sessions) → RanTasks run (tasks_in loads sessions) sink ended status →
    Ran run (Some work) shelf sink ended status
ran_tasks run work shelf loads sessions sink ended status reads ran =
    let is = reads.reads in
    record {
      read = reads.read;
      may_read = reads.may_read;
      ran = inr (record {
        work = work;
        is_asked = refl;
        tasks = is.0;
        input = is.1;
        ran = subst (λ (l : List Task). RanTasks run l sink ended status) (sym (tasks_are 1 loads is.0 sessions is.2.are)) ran;
      });
    }

-- the status of running tasks tells no fault of the shelf
pub no_read_fault : {D : Type 0} (run : Run D) (tasks : List Task) (sink : SinkState) (ended : D) (status : Status) (name : List ℕ) →
    RanTasks run tasks sink ended status → status ≡ ReadFault name → ⊥
no_read_fault run tasks sink ended status name ran is = subst (λ (s : Status). RanTasks run tasks sink ended s) is ran

-- a refusal of the reading tells no fault of the disk or the sink
pub no_disk_fault : (v : ℕ) (work : Work) (read : Read) (loads : List (List Edge)) (status : Status) → ReadsAs v work read loads (Err status) →
    status ≡ DiskFault → ⊥
no_disk_fault v work read loads status reads is = subst (λ (s : Status). ReadsAs v work read loads (Err s)) is reads

pub no_write_fault : (v : ℕ) (work : Work) (read : Read) (loads : List (List Edge)) (status : Status) → ReadsAs v work read loads (Err status) →
    status ≡ WriteFault → ⊥
no_write_fault v work read loads status reads is = subst (λ (s : Status). ReadsAs v work read loads (Err s)) is reads
