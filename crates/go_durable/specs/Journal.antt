-- How a journal keeps its log, as entries are appended until its disk fails.
use Rattle.std.specs.Prelude.{◌≡◌, ℕ, ◌+◌, ◌-◌, ◌/◌, ◌<◌, ◌≤◌, ◌^◌, Bool, true, false, List, length, take, All, Option, None, Some, IfSome, IsSome, Result}
use Rattle.std.specs.Prelude.{Ok, Err}
use Rattle.go_text.specs.Causes.{Rose}
use Rattle.go_word.specs.declared.edge.Edge.{Edge}
use Rattle.go_word.specs.Log.{IsWithin}
use Rattle.go_api.specs.declared.stop.Stop.{Stop}
use Rattle.go_api.specs.declared.stop.Stop.TheVariants as stops
use Rattle.go_blocks.specs.declared.layout.TheConstants.{COUNT_LIMIT}
use Rattle.go_disk.specs.Device.{Device}
use Rattle.go_durable.specs.Appending.{HasImage}
use Rattle.go_durable.specs.LogState.{LogState}
use Rattle.go_durable.specs.Moments.{LeavesOnly}
use Rattle.go_durable.specs.Recovery.{Recovers, RecoversPart, AreNext}
use Rattle.go_durable.specs.Standing.{IsLog}
use Rattle.go_durable.specs.declared.journal.Flushed.{Flushed}
use Rattle.go_durable.specs.declared.journal.Journal.{Journal}
use Rattle.go_durable.specs.declared.journal.Journal.TheVariants.{Sound, Spent}

-- the disk of a journal
abbrev pub journal_disk : {D : Type 0} → Journal D → D
journal_disk (Sound log) = log.disk
journal_disk (Spent disk front) = disk

-- how many entries of the log are durable
abbrev pub journal_front : {D : Type 0} → Journal D → ℕ
journal_front (Sound log) = log.front
journal_front (Spent disk front) = front

-- how many blocks the log has, as long as it can go on
abbrev pub block_count : {D : Type 0} → Journal D → ℕ
block_count (Sound log) = length log.places
block_count (Spent disk front) = 0

-- how many blocks so many entries take: full ones, and one for the rest
abbrev pub blocks_for : ℕ → ℕ
blocks_for count = (count + (COUNT_LIMIT - 1)) / COUNT_LIMIT

-- whether a fault of the disk was met
abbrev pub is_spent : {D : Type 0} → Journal D → Bool
is_spent (Sound log) = false
is_spent (Spent disk front) = true

-- a journal that can go on has the log's first entries, and nothing of it is pending
pub record HasFirst {D : Type 0} (device : Device D) (v : ℕ) (log : List Edge) (opened : D) (kept : LogState D) : Type 0 where
  pub stands : IsLog device kept (take kept.front log)
  pub vertices_are : kept.vertices ≡ v
  pub told : IfSome (device.contents opened) (λ bytes. IsSome (device.contents kept.disk))

-- of a journal that was spent each image has at least the durable entries, and one, where the disk tells, just these
pub record HasLost {D : Type 0} (device : Device D) (v : ℕ) (log : List Edge) (opened disk : D) (front : ℕ) : Type 0 where
  pub each : (image : List ℕ) → device.images disk image → RecoversPart v front log image
  pub told : IfSome (device.contents opened) (λ bytes. IsSome (device.contents disk))
  pub one : IfSome (device.contents disk) (λ bytes. HasImage (device.images disk) (Recovers v (take front log)))
  pub rose : Rose (device.faults opened) (device.faults disk)

-- what a journal has of the log
abbrev pub HasDurable : {D : Type 0} → Device D → ℕ → List Edge → D → Journal D → Type 0
HasDurable device v log opened (Sound kept) = HasFirst device v log opened kept
HasDurable device v log opened (Spent disk front) = HasLost device v log opened disk front

-- a journal keeps a log of which so many entries were there when its disk was opened: it has the durable entries, and at each moment
-- since then a crash left a part of the log with at least those that were there
pub record Keeps {D : Type 0} (device : Device D) (v first : ℕ) (log : List Edge) (opened : D) (journal : Journal D) : Type 0 where
  pub has : HasDurable device v log opened journal
  pub least : first ≤ journal_front journal
  pub most : journal_front journal ≤ length log
  pub moments : LeavesOnly device opened (journal_disk journal) (RecoversPart v first log)
  pub count : device.faults opened ≤ device.faults (journal_disk journal)

-- whatever log a journal keeps that has these entries next, it still keeps it after they were to be appended, and no fewer entries are
-- durable
pub record KeepsOn {D : Type 0} (device : Device D) (edges : List Edge) (old new : Journal D) : Type 0 where
  pub keeps : (v first : ℕ) (log : List Edge) (opened : D) → Keeps device v first log opened old → AreNext edges (journal_front old) log →
      Keeps device v first log opened new
  pub no_less : journal_front old ≤ journal_front new
  pub met_stays : is_spent old ≡ true → is_spent new ≡ true

-- these entries can be appended: their vertices are in range, and they don't make the log too long
abbrev pub CanAppend : {D : Type 0} → List Edge → Journal D → Type 0
CanAppend edges (Sound kept) = All (IsWithin kept.vertices) edges × (kept.front + length edges < 2 ^ 32)
CanAppend edges (Spent disk front) = Unit {0}

-- a journal was stopped, by a fault of the disk just where it is spent
abbrev pub IsStopped : {D : Type 0} → Journal D → Option Stop → Type 0
IsStopped new None = ⊥
IsStopped new (Some stops.Disk) = is_spent new ≡ true
IsStopped new (Some stops.Memory) = is_spent new ≡ false

-- entries were appended, in as few blocks as they take
pub record IsFlushed {D : Type 0} (edges : List Edge) (old new : Journal D) : Type 0 where
  pub sound : is_spent new ≡ false
  pub durable : journal_front new ≡ journal_front old + length edges
  pub blocks : block_count new ≡ block_count old + blocks_for (length edges)

-- what appending entries comes to: all of them are durable, or it was stopped
abbrev pub HasFlushed : {D : Type 0} → List Edge → Journal D → Journal D → Option Stop → Type 0
HasFlushed edges old new None = IsFlushed edges old new
HasFlushed edges old new (Some why) = IsStopped new (Some why)

-- a log goes on by one block of these entries
pub record IsOneBlock {D : Type 0} (edges : List Edge) (old new : LogState D) : Type 0 where
  pub so_many : new.front ≡ old.front + length edges
  pub vertices_are : new.vertices ≡ old.vertices
  pub one_more : length new.places ≡ length old.places + 1

-- a log after a block was appended, or a journal that was stopped
abbrev pub HasAppended : {D : Type 0} → Device D → List Edge → LogState D → Result (LogState D) (Flushed D) → Type 0
HasAppended device edges old (Ok new) = KeepsOn device edges (Sound old) (Sound new) × IsOneBlock edges old new
HasAppended device edges old (Err flushed) = KeepsOn device edges (Sound old) flushed.journal × IsStopped flushed.journal flushed.stop
