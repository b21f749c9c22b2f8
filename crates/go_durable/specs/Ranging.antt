-- What reading a range of a log comes to.
use Rattle.std.specs.Prelude.{◌≡◌, ℕ, zero, suc, ◌+◌, ◌-◌, ◌<◌, ◌≤◌, List, [], ◌∷◌, ◌++◌, length, take, drop, IfSome, Result, Ok, Err}
use Rattle.go_text.specs.Causes.{Rose}
use Rattle.go_word.specs.declared.edge.Edge.{Edge}
use Rattle.go_word.specs.Word.{decode}
use Rattle.byteorder.specs.Endian.{little_number}
use Rattle.go_blocks.specs.File.{File}
use Rattle.go_blocks.specs.declared.log_file.BlockPlace.{BlockPlace}
use Rattle.go_disk.specs.Device.{Device}
use Rattle.go_durable.specs.declared.fault.LogFault.{LogFault}
use Rattle.go_durable.specs.declared.fault.LogFault.TheVariants.{Disk, Memory}
use Rattle.go_durable.specs.Appending.{HasImage}
use Rattle.go_durable.specs.LogState.{LogState, entries_at}
use Rattle.go_durable.specs.Standing.{IsLog}
use Rattle.go_durable.specs.Writing.{TellsOn}

-- a range that is asked for, from one place in the log up to another, and the list that it is added to: before it was read, and after
pub record Asked : Type 0 where
  pub from : ℕ
  pub upto : ℕ
  pub before : List Edge
  pub after : List Edge

-- the entries of so many words in a row
abbrev pub entries_in : ℕ → List ℕ → List Edge
entries_in zero bytes = []
entries_in (suc n) bytes = decode (little_number 8 bytes) ∷ entries_in n (drop 8 bytes)

-- the block of this number has this entry: it begins at the entry or before it, and ends behind it
pub record HasEntry (places : List BlockPlace) (i entry : ℕ) : Type 0 where
  pub within : i < length places
  pub begins : entries_at (take i places) ≤ entry
  pub ends : entry < entries_at (take (i + 1) places)

-- the entries of a log from one place up to another were added
pub record AddsRange (log : List Edge) (a b : ℕ) (old new : List Edge) : Type 0 where
  pub added : new ≡ old ++ take (b - a) (drop a log)

-- the log was read: it is the same on its disk, of which a read gives what it gave, so many entries were added, and they are the log's where the disk
-- tells
pub record HasReadRange {D : Type 0} (device : Device D) (asked : Asked) (old new : LogState D) : Type 0 where
  pub same : new ≡ record old { disk = new.disk }
  pub stands : (log : List Edge) → IsLog device old log → IsLog device new log
  pub contents : (log : List Edge) → IsLog device old log → device.contents new.disk ≡ device.contents old.disk
  pub so_many : length asked.after ≡ length asked.before + (asked.upto - asked.from)
  pub front_stays : take (length asked.before) asked.after ≡ asked.before
  pub shown : (log : List Edge) → IsLog device old log →
      IfSome (device.contents old.disk) (λ bytes. AddsRange log asked.from asked.upto asked.before asked.after)

-- a log that was read was spent by a fault of its disk: each image is a file of it, and there is one, where the disk tells
pub record IsReadSpent {D : Type 0} (device : Device D) (old : LogState D) (disk : D) : Type 0 where
  pub each : (log : List Edge) → IsLog device old log → (image : List ℕ) → device.images disk image → File old.vertices log image
  pub one : (log : List Edge) → IsLog device old log → IfSome (device.contents old.disk) (λ bytes. HasImage (device.images disk) (File old.vertices log))
  pub told : TellsOn device old.disk disk

-- what is answered: the same log, a spent one where the count of faults rose, or for want of memory the log as it was
abbrev pub ReadsRange : {D : Type 0} → Device D → Asked → LogState D → Result (LogState D) (LogFault D) → Type 0
ReadsRange device asked old (Ok new) = HasReadRange device asked old new
ReadsRange device asked old (Err (Disk disk)) = Rose (device.faults old.disk) (device.faults disk) × IsReadSpent device old disk
    × (asked.after ≡ asked.before)
ReadsRange device asked old (Err (Memory log)) = (log ≡ old) × (asked.after ≡ asked.before)
