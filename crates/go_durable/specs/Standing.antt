-- When a log on a disk stands for a list of entries.
use Rattle.std.specs.Prelude.{◌≡◌, ℕ, List, length, All, IfSome}
use Rattle.go_word.specs.declared.edge.Edge.{Edge}
use Rattle.go_word.specs.Log.{IsWithin}
use Rattle.go_disk.specs.Device.{Device}
use Rattle.go_disk.specs.Disk.{Only}
use Rattle.go_blocks.specs.declared.layout.TheConstants.{FIRST_GATE}
use Rattle.go_blocks.specs.File.{Block, HasBlocks, IsClosedBy, entries_of, places_of}
use Rattle.go_durable.specs.LogState.{LogState, OpenedLog}

-- nothing is pending: what a read gives is the base, and a crash leaves nothing else
pub record IsQuiet {D : Type 0} (device : Device D) (disk : D) : Type 0 where
  pub stable : device.base disk ≡ device.contents disk
  pub only : Only (device.contents disk) (device.images disk)

-- nothing is pending, and what a read gives begins with these bytes and a closed gate behind them
pub record IsShut {D : Type 0} (device : Device D) (front : List ℕ) (disk : D) : Type 0 where
  pub quiet : IsQuiet device disk
  pub closed : IfSome (device.contents disk) (IsClosedBy front)

-- the file has blocks of just these entries, at the kept places, in front of a closed gate at the kept place, and nothing is pending
pub record IsLog {D : Type 0} (device : Device D) (kept : LogState D) (log : List Edge) : Type 0 where
  pub blocks : List Block
  pub bytes : List ℕ
  pub has_blocks : HasBlocks kept.vertices blocks bytes
  pub entries : log ≡ entries_of blocks
  pub so_many : kept.front ≡ length log
  pub gate_is : kept.gate ≡ length bytes
  pub places_are : kept.places ≡ places_of FIRST_GATE blocks
  pub shut : IsShut device bytes kept.disk

-- a log stands for its entries, whose vertices are in range
pub record IsOpened {D : Type 0} (device : Device D) (found : OpenedLog D) : Type 0 where
  pub stands : IsLog device found.log found.edges
  pub within : All (IsWithin found.log.vertices) found.edges
