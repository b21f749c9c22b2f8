-- What the steps of an opening leave and answer.
use Rattle.std.specs.Prelude.{◌≡◌, ℕ, ◌*◌, ◌<◌, ◌≤◌, List, [], length, Option, Some, IfSome, Result, Ok, Err, Vec}
use Rattle.std.specs.declared.alloc.Global.{Global}
use Rattle.go_text.specs.Causes.{Rose}
use Rattle.go_disk.specs.Device.{Device}
use Rattle.go_disk.specs.Disk.{StaysTold}
use Rattle.go_blocks.specs.declared.layout.TheConstants.{OPEN, HEADER_LENGTH}
use Rattle.go_blocks.specs.File.{IsUnmade, IsReadOf, header_bytes}
use Rattle.go_durable.specs.declared.contents.Contents.{Contents}
use Rattle.go_durable.specs.declared.fault.OpenFault.{OpenFault}
use Rattle.go_durable.specs.declared.fault.OpenFault.TheVariants.{Bad, Vertices, TooLong, TooMany, Disk, Memory}
use Rattle.go_durable.specs.declared.limits.TheConstants.{FILE_LIMIT}
use Rattle.go_durable.specs.Moments.{LeavesOnly}
use Rattle.go_durable.specs.Standing.{IsQuiet, IsShut}

-- the bytes are read as a file of these contents, for which there is room
pub record IsContents (v room : ℕ) (bytes : List ℕ) (contents : Contents) : Type 0 where
  pub read : IsReadOf bytes (record { vertices = v; edges = contents.edges.items; blocks = contents.places.items; gate = contents.gate })
  pub few : length contents.edges.items ≤ room
  pub small : 8 * length contents.edges.items ≤ length bytes

-- a refusal that isn't for a fault of the disk
abbrev pub IsNoFaultOfADisk : OpenFault (Unit {0}) → Type 0
IsNoFaultOfADisk (Bad bad none) = Unit {0}
IsNoFaultOfADisk (Vertices file none) = Unit {0}
IsNoFaultOfADisk (TooLong len none) = Unit {0}
IsNoFaultOfADisk (TooMany count none) = Unit {0}
IsNoFaultOfADisk (Disk none) = ⊥
IsNoFaultOfADisk (Memory none) = Unit {0}

-- the disk was looked at, and nothing changed
pub record IsLookedAt {D : Type 0} (device : Device D) (old new : D) : Type 0 where
  pub same : device.contents new ≡ device.contents old
  pub quiet : IsQuiet device new
  pub moments : LeavesOnly device old new (λ image. device.contents old ≡ Some image)

-- bytes of a file that isn't made yet, so many of them
pub record IsUnmadeOf (len : ℕ) (bytes : List ℕ) : Type 0 where
  pub unmade : IsUnmade bytes
  pub so_long : length bytes ≡ len

-- the first byte is a closed gate, and there is no more than a header behind it
pub record IsGated {D : Type 0} (device : Device D) (old new : D) : Type 0 where
  pub shut : IsShut device [] new
  pub short : StaysTold (λ a b. length b ≤ HEADER_LENGTH) (device.contents old) (device.contents new)

-- the file was made
pub record IsMade {D : Type 0} (device : Device D) (v : ℕ) (old new : D) : Type 0 where
  pub shut : IsShut device (header_bytes OPEN v) new
  pub told : StaysTold (λ a b. Unit {0}) (device.contents old) (device.contents new)

-- the bytes that were read: those that the disk tells of, not too many, and nothing changed
pub record IsReadFrom (contents : Option (List ℕ)) (bytes : List ℕ) : Type 0 where
  pub shown : IfSome contents (λ told. told ≡ bytes)
  pub fits : length bytes ≤ FILE_LIMIT

-- what reading a disk whole answers: its bytes, or why not
abbrev pub ReadsWhole : {D : Type 0} → Device D → D → D → Result (Vec ℕ Global) (OpenFault (Unit {0})) → Type 0
ReadsWhole device old new (Ok bytes) = IsReadFrom (device.contents old) bytes.items
ReadsWhole device old new (Err (Bad bad none)) = ⊥
ReadsWhole device old new (Err (Vertices file none)) = ⊥
ReadsWhole device old new (Err (TooLong len none)) = IfSome (device.contents old) (λ bytes. len ≡ length bytes) × (FILE_LIMIT < len)
ReadsWhole device old new (Err (TooMany count none)) = ⊥
ReadsWhole device old new (Err (Disk none)) = Rose (device.faults old) (device.faults new)
ReadsWhole device old new (Err (Memory none)) = Unit {0}
