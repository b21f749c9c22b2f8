-- Why a run ended as it did, and what it left of the objects that it was handed.
use Rattle.std.specs.Prelude.{◌≡◌, ◌⊎◌, ℕ, ◌≤◌, List, Option, Some, IsSome, Ok}
use Rattle.go_text.specs.Causes.{Rose}
use Rattle.go_word.specs.declared.edge.Edge.{Edge}
use Rattle.go_io.specs.Sink.{SinkState}
use Rattle.go_run.specs.Course.{IsLogFor}
use Rattle.go_run.specs.Input.{Texts, Read, Task, IsInputOf}
use Rattle.go_run.specs.Work.{Work}
use Rattle.go_run.specs.Work.Work.{driving, generating}
use Rattle.go_run.specs.Reading.{MayRead}
use Rattle.go_run.specs.Run.{Run, ShelfState}
use Rattle.go_run.specs.declared.status.Status.{Status}
use Rattle.go_run.specs.declared.status.Status.TheVariants.{Done, ReadFault, DiskFault, WriteFault, Memory}

-- what bytes on a disk are for a run of tasks: those of a log on which they can be run
pub record IsRightDisk (v : ℕ) (tasks : List Task) (bytes : List ℕ) : Type 0 where
  pub log : List Edge
  pub is_log : IsLogFor v tasks log bytes

-- a shelf tells its texts, where any are to be read
abbrev pub TellsFor : Work → Option Texts → Type 0
TellsFor (driving names) shelf = IsSome shelf
TellsFor (generating count seed) shelf = Unit {0}

-- there is something to do, the shelf tells texts that are there, within the limits and valid, and the disk tells a file for the tasks
pub record IsRight (v : ℕ) (asked : Option Work) (shelf : Option Texts) (contents : Option (List ℕ)) : Type 0 where
  pub work : Work
  pub is_asked : asked ≡ Some work
  pub told : TellsFor work shelf
  pub read : Read
  pub may_read : MayRead shelf asked read
  pub tasks : List Task
  pub input : IsInputOf v work read (Ok tasks)
  pub bytes : List ℕ
  pub shown : contents ≡ Some bytes
  pub right : IsRightDisk v tasks bytes

-- all was done, or there was no memory
abbrev pub IsDoneOrMemory : Status → Type 0
IsDoneOrMemory status = (status ≡ Done) ⊎ (status ≡ Memory)

-- no count of faults fell
pub record NoneFell {D : Type 0} (run : Run D) (shelf now : ShelfState) (sink : SinkState) (ended : D) : Type 0 where
  pub shelf_later : (name : List ℕ) → shelf.faults name ≤ now.faults name
  pub sink_later : run.sink.faults ≤ sink.faults
  pub disk_later : run.device.faults run.begun ≤ run.device.faults ended

-- no count of faults rose
pub record NoneRose {D : Type 0} (run : Run D) (shelf now : ShelfState) (sink : SinkState) (ended : D) : Type 0 where
  pub shelf_same : (name : List ℕ) → ¬ Rose (shelf.faults name) (now.faults name)
  pub sink_same : ¬ Rose run.sink.faults sink.faults
  pub disk_same : ¬ Rose (run.device.faults run.begun) (run.device.faults ended)

-- each fault is told only where the count of its object rose: of the shelf that of the name
pub record TellsRisen {D : Type 0} (run : Run D) (shelf now : ShelfState) (sink : SinkState) (ended : D) (status : Status) : Type 0 where
  pub read_fault : (name : List ℕ) → status ≡ ReadFault name → Rose (shelf.faults name) (now.faults name)
  pub write_fault : status ≡ WriteFault → Rose run.sink.faults sink.faults
  pub disk_fault : status ≡ DiskFault → Rose (run.device.faults run.begun) (run.device.faults ended)

-- why a run of what was asked ended so, by how the shelf stood before and stands now: a fault is told only where it came; over texts and a disk that are
-- right it is done where none came, but for want of memory; the shelf holds what it held, no count fell, and the disk was asked for no range that isn't there
pub record Causes {D : Type 0} (run : Run D) (asked : Option Work) (shelf now : ShelfState) (sink : SinkState) (ended : D) (status : Status) : Type 0 where
  pub tells : TellsRisen run shelf now sink ended status
  pub complete : IsRight run.vertices asked shelf.texts (run.device.contents run.begun) → NoneRose run shelf now sink ended → IsDoneOrMemory status
  pub same_texts : now.texts ≡ shelf.texts
  pub none_fell : NoneFell run shelf now sink ended
  pub no_blunder : run.device.blunders ended ≡ run.device.blunders run.begun
