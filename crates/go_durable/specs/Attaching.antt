-- What attaching a disk comes to.
use Rattle.std.specs.Prelude.{◌≡◌, ◌⊎◌, ℕ, ◌<◌, ◌≤◌, List, [], length, Option, None, Some, IfSome, Result, Ok, Err}
use Rattle.go_text.specs.Causes.{Rose}
use Rattle.go_word.specs.declared.edge.Edge.{Edge}
use Rattle.go_disk.specs.Device.{Device}
use Rattle.go_disk.specs.Disk.{StaysTold}
use Rattle.go_blocks.specs.declared.fault.Bad.{Bad as Place}
use Rattle.go_blocks.specs.File.{File, IsUnmade}
use Rattle.go_blocks.specs.Faults.{IsFirstFault}
use Rattle.go_durable.specs.declared.fault.OpenFault.{OpenFault}
use Rattle.go_durable.specs.declared.fault.OpenFault.TheVariants.{Bad, Vertices, TooLong, TooMany, Disk, Memory}
use Rattle.go_durable.specs.declared.limits.TheConstants.{FILE_LIMIT}
use Rattle.go_durable.specs.LogState.{OpenedLog}
use Rattle.go_durable.specs.Moments.{LeavesOnly, SettlesTo}
use Rattle.go_durable.specs.Recovery.{Recovers}
use Rattle.go_durable.specs.Standing.{IsQuiet, IsOpened}

-- a file of this length is too long
pub record IsTooLong (bytes : List ℕ) (len : ℕ) : Type 0 where
  pub so_long : len ≡ length bytes
  pub over : FILE_LIMIT < len

-- the bytes are neither a file that isn't made yet nor a file of a log, and this is the first place that offends
pub record IsNoLog (bytes : List ℕ) (bad : Place) : Type 0 where
  pub fits : length bytes ≤ FILE_LIMIT
  pub made : IsUnmade bytes → ⊥
  pub first : IsFirstFault bytes bad

-- the bytes are a file of another number of vertices
pub record IsOfOthers (v : ℕ) (bytes : List ℕ) (file : ℕ) : Type 0 where
  pub fits : length bytes ≤ FILE_LIMIT
  pub log : List Edge
  pub is_file : File file log bytes
  pub other : file ≡ v → ⊥

-- the bytes are a file of more entries than there is room for
pub record IsTooMany (v room : ℕ) (bytes : List ℕ) (count : ℕ) : Type 0 where
  pub fits : length bytes ≤ FILE_LIMIT
  pub log : List Edge
  pub is_file : File v log bytes
  pub so_many : count ≡ length log
  pub over : room < count

-- the bytes recover to these entries, for which there is room
pub record IsFound (v room : ℕ) (bytes : List ℕ) (edges : List Edge) : Type 0 where
  pub fits : length bytes ≤ FILE_LIMIT
  pub recovers : Recovers v edges bytes
  pub few : length edges ≤ room

-- why bytes are refused; a fault of the disk and want of memory say nothing of them
abbrev pub Refuses : {D : Type 0} → ℕ → ℕ → List ℕ → OpenFault D → Type 0
Refuses v room bytes (Bad bad disk) = IsNoLog bytes bad
Refuses v room bytes (Vertices file disk) = IsOfOthers v bytes file
Refuses v room bytes (TooLong len disk) = IsTooLong bytes len
Refuses v room bytes (TooMany count disk) = IsTooMany v room bytes count
Refuses v room bytes (Disk disk) = Unit {0}
Refuses v room bytes (Memory disk) = Unit {0}

-- what is answered of bytes
abbrev pub Answers : {D : Type 0} → ℕ → ℕ → List ℕ → Result (OpenedLog D) (OpenFault D) → Type 0
Answers v room bytes (Ok found) = IsFound v room bytes found.edges
Answers v room bytes (Err fault) = Refuses v room bytes fault

-- the answer is that of some bytes, and where the disk tells of those that a read gives
pub record IsAnswerOf {D : Type 0} (v room : ℕ) (contents : Option (List ℕ)) (result : Result (OpenedLog D) (OpenFault D)) : Type 0 where
  pub bytes : List ℕ
  pub shown : IfSome contents (λ told. told ≡ bytes)
  pub answer : Answers v room bytes result

-- the disk, whatever was answered
abbrev pub disk_of : {D : Type 0} → OpenFault D → D
disk_of (Bad bad disk) = disk
disk_of (Vertices file disk) = disk
disk_of (TooLong len disk) = disk
disk_of (TooMany count disk) = disk
disk_of (Disk disk) = disk
disk_of (Memory disk) = disk

abbrev pub disk_in : {D : Type 0} → Result (OpenedLog D) (OpenFault D) → D
disk_in (Ok found) = found.log.disk
disk_in (Err fault) = disk_of fault

-- what a crash may leave from the first sync of an opening on: what a read gave, and of a file that wasn't made yet what recovers to
-- the empty log too
abbrev pub IsLeft : ℕ → Option (List ℕ) → List ℕ → Type 0
IsLeft v None image = ⊥
IsLeft v (Some bytes) image = (image ≡ bytes) ⊎ (IsUnmade bytes × Recovers v [] image)

-- up to the first sync that succeeded the images are among those at entry, and from then on they are those of an opening
abbrev pub IsOpening : {D : Type 0} → Device D → ℕ → D → D → Type 0
IsOpening device v old new = SettlesTo device old new (IsLeft v (device.contents old))

-- no sync succeeded, so that all images are among those at entry; or one did
abbrev pub MayBeOpening : {D : Type 0} → Device D → ℕ → D → D → Type 0
MayBeOpening device v old new = LeavesOnly device old new (device.images old) ⊎ IsOpening device v old new

-- the images of the moments of an opening, by its answer: where it is no fault of the disk, a sync succeeded
abbrev pub OpensOver : {D : Type 0} → Device D → ℕ → D → Result (OpenedLog D) (OpenFault D) → Type 0
OpensOver device v old (Err (Disk new)) = MayBeOpening device v old new
OpensOver device v old result = IsOpening device v old (disk_in result)

-- the number of vertices is the one asked for, and told stays told
pub record IsOpenedFor {D : Type 0} (device : Device D) (v : ℕ) (old : D) (found : OpenedLog D) : Type 0 where
  pub opened : IsOpened device found
  pub vertices_are : found.log.vertices ≡ v
  pub told : StaysTold (λ a b. Unit {0}) (device.contents old) (device.contents found.log.disk)

-- a fault of the disk is told only where the count of its faults rose
abbrev pub TellsFault : {D : Type 0} → Device D → D → Result (OpenedLog D) (OpenFault D) → Type 0
TellsFault device old (Err (Disk new)) = Rose (device.faults old) (device.faults new)
TellsFault device old result = Unit {0}

-- what a read gives is what it gave, and nothing is pending
pub record IsUntouched {D : Type 0} (device : Device D) (old new : D) : Type 0 where
  pub same : device.contents new ≡ device.contents old
  pub quiet : IsQuiet device new

-- a refusal that isn't for a fault of the disk left the disk untouched
abbrev pub LeavesUntouched : {D : Type 0} → Device D → D → Result (OpenedLog D) (OpenFault D) → Type 0
LeavesUntouched device old (Ok found) = Unit {0}
LeavesUntouched device old (Err (Disk new)) = Unit {0}
LeavesUntouched device old (Err refused) = IsUntouched device old (disk_of refused)
