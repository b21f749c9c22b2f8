-- What a run of the program did, by the status in which it ended.
use Rattle.std.specs.Prelude.{◌≡◌, ◌⊎◌, ℕ, ◌+◌, ◌-◌, List, Option, None, Some, Result, Ok, Err}
use Rattle.go_text.specs.Causes.{Rose}
use Rattle.go_io.specs.Sink.{SinkState, Takes, TakesPrefix}
use Rattle.go_api.specs.declared.limits.TheConstants.{LOG_ENTRIES}
use Rattle.go_durable.specs.Attaching.{IsAnswerOf, OpensOver, LeavesUntouched}
use Rattle.go_durable.specs.LogState.{OpenedLog}
use Rattle.go_durable.specs.declared.fault.OpenFault.{OpenFault}
use Rattle.go_durable.specs.declared.fault.OpenFault.TheVariants as faults
use Rattle.go_durable.specs.declared.limits.TheConstants.{FILE_LIMIT}
use Rattle.go_run.specs.Course.{Completes, BreaksOff}
use Rattle.go_run.specs.Work.{Work}
use Rattle.go_run.specs.Input.{Texts, Read, Task, count_of, IsInputOf, IsReadTo}
use Rattle.go_run.specs.Reading.{MayRead}
use Rattle.go_run.specs.Run.{Run}
use Rattle.go_run.specs.declared.status.Status.{Status}
use Rattle.go_run.specs.declared.status.Status.TheVariants.{Done, Words, Script, NoFile, TooMuch, ReadFault, NotALog, OtherVertices, DiskFault, WriteFault}
use Rattle.go_run.specs.declared.status.Status.TheVariants.{Memory}

-- the opening was refused so: the answer is that of the bytes on the disk, with room for what the tasks leave of the limit; what a crash left at each
-- moment is what an opening may leave, and a refusal that isn't for a fault of the disk left it untouched
pub record IsRefusedBy {D : Type 0} (run : Run D) (tasks : List Task) (fault : OpenFault D) : Type 0 where
  pub answer : (let answer : Result (OpenedLog D) (OpenFault D) = Err fault in
      IsAnswerOf run.vertices (LOG_ENTRIES - count_of tasks) (run.device.contents run.begun) answer)
  pub moments : (let answer : Result (OpenedLog D) (OpenFault D) = Err fault in OpensOver run.device run.vertices run.begun answer)
  pub untouched : (let answer : Result (OpenedLog D) (OpenFault D) = Err fault in LeavesUntouched run.device run.begun answer)

-- the opened log is too long: in bytes, or together with what the tasks may put
abbrev pub IsTooMuch : {D : Type 0} → Run D → List Task → D → ℕ → ℕ → Type 0
IsTooMuch run tasks ended counted limit =
    (IsRefusedBy run tasks (faults.TooLong counted ended) × (limit ≡ FILE_LIMIT))
    ⊎ ((count : ℕ) × IsRefusedBy run tasks (faults.TooMany count ended) × (counted ≡ count_of tasks + count) × (limit ≡ LOG_ENTRIES))

-- the sink took all of a text; or its first bytes, where its count of faults rose
abbrev pub TakesSome : SinkState → SinkState → List ℕ → Type 0
TakesSome before after text = Takes before after text ⊎ (TakesPrefix before after text × Rose before.faults after.faults)

-- nothing is said of the text that was taken, since none was
abbrev pub Untaken : List ℕ → Type 0
Untaken text = Unit {0}

-- what running tasks made of the sink and the disk, by the status
abbrev pub RanTasks : {D : Type 0} → Run D → List Task → SinkState → D → Status → Type 0
RanTasks run tasks sink ended Done = Completes run tasks ended (Takes run.sink sink)
RanTasks run tasks sink ended (TooMuch counted limit) = IsTooMuch run tasks ended counted limit × (sink ≡ run.sink)
RanTasks run tasks sink ended (NotALog at kind) = IsRefusedBy run tasks (faults.Bad (record { at = at; kind = kind }) ended) × (sink ≡ run.sink)
RanTasks run tasks sink ended (OtherVertices file asked) =
    IsRefusedBy run tasks (faults.Vertices file ended) × (asked ≡ run.vertices) × (sink ≡ run.sink)
RanTasks run tasks sink ended DiskFault =
    (IsRefusedBy run tasks (faults.Disk ended) × (sink ≡ run.sink)) ⊎ BreaksOff run tasks ended (TakesSome run.sink sink)
RanTasks run tasks sink ended WriteFault = Completes run tasks ended (TakesPrefix run.sink sink)
RanTasks run tasks sink ended Memory =
    ((ended ≡ run.begun) ⊎ (IsRefusedBy run tasks (faults.Memory ended) ⊎ BreaksOff run tasks ended Untaken)) × (sink ≡ run.sink)
RanTasks run tasks sink ended _ = ⊥

-- why a run ended before a task was run: exactly this is the refusal of what it was to do, a text that was to be read couldn't be, or memory ran out
abbrev pub EndsEarly : ℕ → Option Work → Read → Status → Type 0
EndsEarly v None read Words = Unit {0}
EndsEarly v None read Memory = Unit {0}
EndsEarly v None read _ = ⊥
EndsEarly v (Some work) read (Script name line kind) = IsInputOf v work read (Err (Script name line kind))
EndsEarly v (Some work) read (NoFile name) = IsInputOf v work read (Err (NoFile name))
EndsEarly v (Some work) read (TooMuch counted limit) = IsInputOf v work read (Err (TooMuch counted limit))
EndsEarly v (Some work) read (ReadFault name) = IsReadTo v work read name
EndsEarly v (Some work) read Memory = Unit {0}
EndsEarly v (Some work) read _ = ⊥

-- a run ended before a task was run, and sink and disk are untouched
pub record EndedEarly {D : Type 0} (run : Run D) (sink : SinkState) (ended : D) (Why : Type 0) : Type 0 where
  pub why : Why
  pub untouched : sink ≡ run.sink
  pub same_disk : ended ≡ run.begun

-- there is something to do, what is read asks for tasks, and this holds of them
pub record Reached (v : ℕ) (asked : Option Work) (read : Read) (Then : List Task → Type 0) : Type 0 where
  pub work : Work
  pub is_asked : asked ≡ Some work
  pub tasks : List Task
  pub input : IsInputOf v work read (Ok tasks)
  pub ran : Then tasks

-- what a run did over what it read, by its status: it ended early, or it ran the tasks
abbrev pub RanOver : {D : Type 0} → Run D → Option Work → Read → SinkState → D → Status → Type 0
RanOver run asked read sink ended status =
    EndedEarly run sink ended (EndsEarly run.vertices asked read status)
    ⊎ Reached run.vertices asked read (λ tasks. RanTasks run tasks sink ended status)

-- what a run did for what it was asked and a shelf; of a shelf that doesn't tell its texts, some texts are such that the run was one over them
pub record Ran {D : Type 0} (run : Run D) (asked : Option Work) (shelf : Option Texts) (sink : SinkState) (ended : D) (status : Status) : Type 0 where
  pub read : Read
  pub may_read : MayRead shelf asked read
  pub ran : RanOver run asked read sink ended status
