-- What an append comes to.
use Rattle.std.specs.Prelude.{◌≡◌, ℕ, ◌+◌, List, [], ◌∷◌, ◌++◌, length, IfSome, Result, Ok, Err}
use Rattle.go_text.specs.Causes.{Rose}
use Rattle.go_word.specs.declared.edge.Edge.{Edge}
use Rattle.go_disk.specs.Device.{Device}
use Rattle.go_blocks.specs.File.{File}
use Rattle.go_durable.specs.declared.fault.LogFault.{LogFault}
use Rattle.go_durable.specs.declared.fault.LogFault.TheVariants.{Disk, Memory}
use Rattle.go_durable.specs.LogState.{LogState}
use Rattle.go_durable.specs.Recovery.{IsBeforeOrAfter}
use Rattle.go_durable.specs.Standing.{IsLog}
use Rattle.go_durable.specs.Writing.{TellsOn}

-- the disk, whatever was answered
abbrev pub disk_after : {D : Type 0} → Result (LogState D) (LogFault D) → D
disk_after (Ok log) = log.disk
disk_after (Err (Disk disk)) = disk
disk_after (Err (Memory log)) = log.disk

-- the log goes on by these entries
pub record IsLongerBy {D : Type 0} (device : Device D) (edges : List Edge) (old new : LogState D) : Type 0 where
  pub stands : (log : List Edge) → IsLog device old log → IsLog device new (log ++ edges)
  pub vertices_are : new.vertices ≡ old.vertices
  pub so_many : new.front ≡ old.front + length edges
  pub one_block : new.places ≡ old.places ++ record { gate = old.gate; count = length edges } ∷ []
  pub told : (log : List Edge) → IsLog device old log → TellsOn device old.disk new.disk

-- some image has this
pub record HasImage (images : List ℕ → Type 0) (P : List ℕ → Type 0) : Type 0 where
  pub image : List ℕ
  pub is_image : images image
  pub has : P image

-- a log was spent by a fault of its disk, in a call that may have added these entries: each image is a file of the log or of the log
-- with them, and one, where the disk tells, of just the log
pub record IsSpent {D : Type 0} (device : Device D) (edges : List Edge) (old : LogState D) (disk : D) : Type 0 where
  pub each : (log : List Edge) → IsLog device old log → (image : List ℕ) → device.images disk image → IsBeforeOrAfter old.vertices log edges image
  pub one : (log : List Edge) → IsLog device old log → IfSome (device.contents old.disk) (λ bytes. HasImage (device.images disk) (File old.vertices log))
  pub told : TellsOn device old.disk disk

-- what is answered: a longer log, a spent one where the count of faults rose, or for want of memory the log as it was
abbrev pub Appends : {D : Type 0} → Device D → List Edge → LogState D → Result (LogState D) (LogFault D) → Type 0
Appends device edges old (Ok new) = IsLongerBy device edges old new
Appends device edges old (Err (Disk disk)) = Rose (device.faults old.disk) (device.faults disk) × IsSpent device edges old disk
Appends device edges old (Err (Memory log)) = log ≡ old
