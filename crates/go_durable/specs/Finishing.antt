-- How a log has ended.
use Rattle.std.specs.Prelude.{◌≡◌, ℕ, ◌≤◌, true, List, length, take, Option, None, Some, IfSome}
use Rattle.go_text.specs.Causes.{Rose}
use Rattle.go_word.specs.declared.edge.Edge.{Edge}
use Rattle.go_api.specs.declared.stop.Stop.{Stop}
use Rattle.go_api.specs.declared.stop.Stop.TheVariants as stops
use Rattle.go_blocks.specs.File.{File}
use Rattle.go_disk.specs.Device.{Device}
use Rattle.go_disk.specs.Disk.{Only}
use Rattle.go_durable.specs.declared.finished.Finished.{Finished}
use Rattle.go_durable.specs.declared.journal.Journal.{Journal}
use Rattle.go_durable.specs.Appending.{HasImage}
use Rattle.go_durable.specs.Journal.{journal_front, is_spent}
use Rattle.go_durable.specs.Moments.{LeavesOnly}
use Rattle.go_durable.specs.Recovery.{Recovers, RecoversPart}

-- of a log that ended with all appended, a crash leaves a file of it and nothing else; where the disk told at opening, it has one image
pub record IsWhole {D : Type 0} (device : Device D) (v : ℕ) (log : List Edge) (opened : D) (finished : Finished D) : Type 0 where
  pub all : finished.durable ≡ length log
  pub only : Only (device.contents finished.disk) (device.images finished.disk)
  pub each : (image : List ℕ) → device.images finished.disk image → File v log image
  pub one : IfSome (device.contents opened) (λ bytes. HasImage (device.images finished.disk) (File v log))

-- by its stop, a log ended with all appended, or with a fault of the disk, whose count rose since opening
abbrev pub Ends : {D : Type 0} → Device D → ℕ → List Edge → D → Finished D → Option Stop → Type 0
Ends device v log opened finished None = IsWhole device v log opened finished
Ends device v log opened finished (Some stops.Disk) = Rose (device.faults opened) (device.faults finished.disk)
Ends device v log opened finished (Some stops.Memory) = Unit {0}

-- a journal has ended: at least what was durable is, each image recovers to a part of the log of at least so many entries and one to just
-- these, at each moment since opening a crash left a part of the log with all that was there, and one that was spent ends with the disk
pub record HasFinished {D : Type 0} (device : Device D) (v first : ℕ) (log : List Edge) (opened : D) (journal : Journal D)
    (finished : Finished D) : Type 0 where
  pub no_less : journal_front journal ≤ finished.durable
  pub most : finished.durable ≤ length log
  pub each : (image : List ℕ) → device.images finished.disk image → RecoversPart v finished.durable log image
  pub one : IfSome (device.contents opened) (λ bytes. HasImage (device.images finished.disk) (Recovers v (take finished.durable log)))
  pub moments : LeavesOnly device opened finished.disk (RecoversPart v first log)
  pub count : device.faults opened ≤ device.faults finished.disk
  pub ends : Ends device v log opened finished finished.stop
  pub spent : is_spent journal ≡ true → finished.stop ≡ Some stops.Disk
