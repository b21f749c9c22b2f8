-- What a piece is to a ring: how far it reaches, where it fits, which log it stands for, and what a crash may have left of it.
use Rattle.std.specs.Prelude.{◌≡◌, ℕ, ◌<◌, List, [], take, is_some, Result, Ok, Err}
use Rattle.go_word.specs.declared.edge.Edge.{Edge}
use Rattle.go_core.specs.declared.part.PartState.{PartState}
use Rattle.go_core.specs.Parts.{Mark, no_mark}
use Rattle.go_disk.specs.Device.{Device}
use Rattle.go_durable.specs.declared.journal.Journal.{Journal}
use Rattle.go_durable.specs.declared.journal.Journal.TheVariants as journals
use Rattle.go_durable.specs.Journal.{Keeps as KeepsLog}
use Rattle.go_durable.specs.Recovery.{Recovers}
use Rattle.go_shard.specs.Parts.{IsShardOf}
use Rattle.go_shard.specs.ShardState.{ShardState, Keeps}
use Rattle.go_shard.specs.Stands.{Stands}
use Rattle.go_piece.specs.declared.piece.Piece.{Piece}
use Rattle.go_piece.specs.declared.piece.Piece.TheVariants.{Shard, Log, Spent}

-- a piece is a shard with this
abbrev pub OnShard : {D : Type 0} → (ShardState → Type 0) → Piece D → Type 0
OnShard P (Shard shard) = P shard
OnShard P (Log kept) = ⊥
OnShard P (Spent disk front) = ⊥

-- the piece that a log's file is
abbrev pub file_of : {D : Type 0} → Journal D → Piece D
file_of (journals.Sound log) = Log log
file_of (journals.Spent disk front) = Spent disk front

-- the file that a piece is, or the piece itself where it is a shard
abbrev pub IsJournalOf : {D : Type 0} → Piece D → Result (Journal D) (Piece D) → Type 0
IsJournalOf piece (Ok journal) = file_of journal ≡ piece
IsJournalOf (Shard shard) (Err refused) = refused ≡ Shard shard
IsJournalOf (Log log) (Err refused) = ⊥
IsJournalOf (Spent disk front) (Err refused) = ⊥

-- how far a piece reaches, its cut and its pins; a log has no cut and no pins
abbrev pub state_in : {D : Type 0} → Piece D → PartState
state_in (Shard shard) = record { front = shard.front; cut = shard.cut; pins = shard.pins }
state_in (Log log) = record { front = log.front; cut = 0; pins = [] }
state_in (Spent disk front) = record { front = front; cut = 0; pins = [] }

-- a journal has kept a log since its disk was opened, whenever that was: it has the durable entries, no fewer than were there
pub record HasKept {D : Type 0} (device : Device D) (first : ℕ) (log : List Edge) (journal : Journal D) : Type 0 where
  pub vertices : ℕ
  pub opened : D
  pub keeps : KeepsLog device vertices first log opened journal

-- a piece stands for a log up to its front
abbrev pub StandsFor : {D : Type 0} → Device D → Piece D → ℕ → List Edge → Type 0
StandsFor device (Shard shard) first log = Stands shard (take shard.front log)
StandsFor device (Log kept) first log = HasKept device first log (journals.Sound kept)
StandsFor device (Spent disk front) first log = HasKept device first log (journals.Spent disk front)

-- each image of a disk recovers to a log between so many vertices
abbrev pub IsOver : {D : Type 0} → Device D → ℕ → D → Type 0
IsOver device vertices disk = (image : List ℕ) → device.images disk image → (log : List Edge) × Recovers vertices log image

-- a shard fits the place of its index among so many, over so many vertices; a log's file fits the place behind the shards
abbrev pub Fits : {D : Type 0} → Device D → Piece D → ℕ → ℕ → ℕ → Type 0
Fits device (Shard shard) place shards vertices = (place < shards) × IsShardOf vertices shards place shard
Fits device (Log kept) place shards vertices = (place ≡ shards) × (kept.vertices ≡ vertices)
Fits device (Spent disk front) place shards vertices = (place ≡ shards) × IsOver device vertices disk

-- a shard tells of the fronts that it keeps, a log's file of none
abbrev pub KeepsFront : {D : Type 0} → Piece D → ℕ → Type 0
KeepsFront (Shard shard) front = Keeps shard front
KeepsFront (Log kept) front = ⊥
KeepsFront (Spent disk at) front = ⊥

-- the disk of a piece failed
abbrev pub HasFailed : {D : Type 0} → Piece D → Type 0
HasFailed (Shard shard) = ⊥
HasFailed (Log kept) = ⊥
HasFailed (Spent disk front) = Unit {0}

-- the moment of a disk, the count of its faults, and whether it tells what it holds
abbrev pub mark_at : {D : Type 0} → Device D → D → Mark
mark_at device disk = record { clock = device.clock disk; faults = device.faults disk; tells = is_some (device.contents disk) }

-- those of a piece's disk; a shard has none
abbrev pub mark_in : {D : Type 0} → Device D → Piece D → Mark
mark_in device (Shard shard) = no_mark
mark_in device (Log kept) = mark_at device kept.disk
mark_in device (Spent disk front) = mark_at device disk

-- a journal has kept a log since its disk was at a mark: each image that a crash left since then recovers to a part of it, with all before the first
-- position
pub record HasKeptSince {D : Type 0} (device : Device D) (log : List Edge) (vertices first : ℕ) (mark : Mark) (journal : Journal D) : Type 0 where
  pub opened : D
  pub at : mark_at device opened ≡ mark
  pub keeps : KeepsLog device vertices first log opened journal

-- the log's file has; a shard has no disk
abbrev pub HasLeft : {D : Type 0} → Device D → Piece D → List Edge → ℕ → ℕ → Mark → Type 0
HasLeft device (Shard shard) log vertices first mark = Unit {0}
HasLeft device (Log kept) log vertices first mark = HasKeptSince device log vertices first mark (journals.Sound kept)
HasLeft device (Spent disk front) log vertices first mark = HasKeptSince device log vertices first mark (journals.Spent disk front)
