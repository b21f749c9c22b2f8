-- What reading what a run is to do may give.
use Rattle.std.specs.Prelude.{◌≡◌, ◌⊎◌, ℕ, ◌<◌, ◌≤◌, List, [], ◌∷◌, length, map, All, slice_get, Option, Some, None, Result, Ok, Err}
use Rattle.go_word.specs.declared.edge.Edge.{Edge}
use Rattle.go_word.specs.Log.{IsWithin as IsEntryWithin}
use Rattle.go_api.specs.declared.limits.TheConstants.{LOG_ENTRIES}
use Rattle.go_script.specs.Places.{IsWithin, IsScript}
use Rattle.go_script.specs.Until.{Counted, AsksTooMuch}
use Rattle.go_session.specs.Asked.{asked_with, lists_of, may_put}
use Rattle.go_session.specs.Session.{SessionState, unanswered}
use Rattle.go_run.specs.Course.{AreOf}
use Rattle.go_run.specs.Input.{Texts, Read, Task, count_of, IsInputOf, IsReadTo}
use Rattle.go_run.specs.Work.{Work}
use Rattle.go_run.specs.Work.Work.{driving, generating}
use Rattle.go_run.specs.declared.status.Status.{Status}
use Rattle.go_run.specs.declared.status.Status.TheVariants.{Script, NoFile, TooMuch, ReadFault, Memory}

-- this may be what was read from a shelf: its own texts where it tells, and anything where it doesn't
abbrev pub IsReadFrom : Option Texts → List (List ℕ) → Read → Type 0
IsReadFrom None names read = Unit {0}
IsReadFrom (Some told) names read = (read.files ≡ map told names) × (read.named ≡ told)

abbrev pub MayRead : Option Texts → Option Work → Read → Type 0
MayRead shelf None read = Unit {0}
MayRead shelf (Some (driving names)) read = IsReadFrom shelf names read
MayRead shelf (Some (generating count seed)) read = Unit {0}

-- the status, or want of memory for it
abbrev pub IsOrMemory : Status → Status → Type 0
IsOrMemory expected status = (status ≡ expected) ⊎ (status ≡ Memory)

-- tasks can be run: each script is one over the vertices, so are the entries of its loads, and together they don't put too much
pub record CanRun (v : ℕ) (tasks : List Task) : Type 0 where
  pub scripts : All (λ task. IsScript task.commands × IsWithin v task.commands) tasks
  pub entries : All (λ task. All (IsEntryWithin v) (may_put (asked_with task.commands task.lists))) tasks
  pub few : count_of tasks ≤ LOG_ENTRIES

-- a session that has answered nothing, and whose loads name lists that are there
pub record IsNew (so_many : ℕ) (session : SessionState) : Type 0 where
  pub new : session ≡ unanswered session.number session.commands session.lists
  pub lists : All (λ n. n < so_many) session.lists

-- a session, and how many entries each of its loads puts
abbrev pub counted_in : List (List Edge) → SessionState → Counted
counted_in loads session = record { commands = session.commands; files = map length (lists_of loads session.lists) }

-- no session waits for more entries than are certain to come
abbrev pub WaitsForCertain : List (List Edge) → List SessionState → Type 0
WaitsForCertain loads sessions = (i n : ℕ) → AsksTooMuch (map (counted_in loads) sessions) i n → ⊥

-- the sessions of tasks that can be run, with the lists that they load
pub record IsReady (v : ℕ) (tasks : List Task) (loads : List (List Edge)) (sessions : List SessionState) : Type 0 where
  pub are : AreOf 1 loads tasks sessions
  pub new : All (IsNew (length loads)) sessions
  pub can_run : CanRun v tasks
  pub waits : WaitsForCertain loads sessions
  pub some : 1 ≤ length sessions
  pub few : length sessions ≤ 8

-- what is answered to a work over what was read: sessions that are ready for its tasks; its refusal; a fault of the shelf, or want of memory
abbrev pub ReadsAs : ℕ → Work → Read → List (List Edge) → Result (List SessionState) Status → Type 0
ReadsAs v work read loads (Ok sessions) = (tasks : List Task) × IsInputOf v work read (Ok tasks) × IsReady v tasks loads sessions
ReadsAs v work read loads (Err (Script name line kind)) = IsInputOf v work read (Err (Script name line kind))
ReadsAs v work read loads (Err (NoFile name)) = IsInputOf v work read (Err (NoFile name))
ReadsAs v work read loads (Err (TooMuch counted limit)) = IsInputOf v work read (Err (TooMuch counted limit))
ReadsAs v work read loads (Err (ReadFault name)) = IsReadTo v work read name
ReadsAs v work read loads (Err Memory) = Unit {0}
ReadsAs v work read loads (Err _) = ⊥

-- the same of a shelf; where it doesn't tell its texts, some texts are such that it read them
pub record ReadsWork (v : ℕ) (shelf : Option Texts) (work : Work) (loads : List (List Edge)) (result : Result (List SessionState) Status) : Type 0 where
  pub read : Read
  pub may_read : MayRead shelf (Some work) read
  pub reads : ReadsAs v work read loads result
