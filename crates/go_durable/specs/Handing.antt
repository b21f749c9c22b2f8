-- A refusal of an opening, before the disk is handed back with it.
use Rattle.std.specs.Prelude.{ℕ, length, Result, Ok, Err}
use Rattle.go_durable.specs.declared.contents.Contents.{Contents}
use Rattle.go_durable.specs.declared.fault.OpenFault.{OpenFault}
use Rattle.go_durable.specs.declared.fault.OpenFault.TheVariants.{Bad, Vertices, TooLong, TooMany, Disk, Memory}
use Rattle.go_durable.specs.LogState.{LogState, OpenedLog}

-- the same fault, with this disk
abbrev pub handed : {D : Type 0} → OpenFault (Unit {0}) → D → OpenFault D
handed (Bad bad none) disk = Bad bad disk
handed (Vertices file none) disk = Vertices file disk
handed (TooLong len none) disk = TooLong len disk
handed (TooMany count none) disk = TooMany count disk
handed (Disk none) disk = Disk disk
handed (Memory none) disk = Memory disk

-- a log of these contents on this disk
abbrev pub kept_of : {D : Type 0} → ℕ → D → Contents → LogState D
kept_of v disk contents = record { disk = disk; vertices = v; front = length contents.edges.items; gate = contents.gate; places = contents.places.items }

-- what is answered, once the disk is handed on
abbrev pub result_of : {D : Type 0} → ℕ → D → Result Contents (OpenFault (Unit {0})) → Result (OpenedLog D) (OpenFault D)
result_of v disk (Ok contents) = Ok (record { log = kept_of v disk contents; edges = contents.edges.items })
result_of v disk (Err refused) = Err (handed refused disk)
