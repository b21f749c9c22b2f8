-- A run of the program, by what it was handed in.
use Rattle.std.specs.Prelude.{ℕ, List, Option}
use Rattle.go_api.specs.declared.setup.Setup.{Setup}
use Rattle.go_disk.specs.Device.{Device}
use Rattle.go_io.specs.Sink.{SinkState}
use Rattle.go_run.specs.Input.{Texts}

-- a run as it began: what its disk tells, the number of vertices, the slots of the ring, the disk, and how the sink stood
pub record Run (D : Type 0) : Type 1 where
  pub device : Device D
  pub vertices : ℕ
  pub ring : ℕ
  pub begun : D
  pub sink : SinkState

abbrev pub run_over : {D : Type 0} → Device D → Setup → D → SinkState → Run D
run_over device setup begun sink = record { device = device; vertices = setup.vertices; ring = setup.ring; begun = begun; sink = sink }

-- how a shelf stands: its texts, where it tells, and for each name how often reading it failed
pub record ShelfState : Type 0 where
  pub texts : Option Texts
  pub faults : List ℕ → ℕ

abbrev pub shelf_with : Option Texts → (List ℕ → ℕ) → ShelfState
shelf_with texts faults = record { texts = texts; faults = faults }
