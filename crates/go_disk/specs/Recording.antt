-- How the fields of a disk in memory stand for what was done with it.
use Rattle.std.specs.Prelude.{◌≡◌, ℕ, ◌+◌, ◌≤◌, Bool, true, false, List, [], ◌∷◌, length, take, drop, vec_capacity}
use Rattle.go_disk.specs.declared.call.Call.{Call}
use Rattle.go_disk.specs.declared.call.Call.TheVariants.{Looked, Wrote, Tore, Synced}
use Rattle.go_disk.specs.declared.mem_disk.MemDisk.TheInside.{Inside}
use Rattle.go_disk.specs.MemDisk.{Step, looked, wrote, tore, synced, Tape, contents_after, stable_after, spans_after, used_by}

-- the steps of recorded calls, on top of earlier steps; each write takes its bytes from the front of those that were written
abbrev pub steps_from : List Call → List ℕ → List Step → List Step
steps_from [] bytes steps = steps
steps_from (Looked ∷ calls) bytes steps = steps_from calls bytes (looked ∷ steps)
steps_from (Wrote at count ∷ calls) bytes steps = steps_from calls (drop count bytes) (wrote at (take count bytes) ∷ steps)
steps_from (Tore at count ∷ calls) bytes steps = steps_from calls bytes (tore at count ∷ steps)
steps_from (Synced ∷ calls) bytes steps = steps_from calls bytes (synced ∷ steps)

-- how many bytes recorded calls wrote
abbrev pub written_by : List Call → ℕ
written_by [] = 0
written_by (Looked ∷ calls) = written_by calls
written_by (Wrote at count ∷ calls) = count + written_by calls
written_by (Tore at count ∷ calls) = written_by calls
written_by (Synced ∷ calls) = written_by calls

-- whether a recorded call is a sync that succeeded
abbrev pub is_sync : Call → Bool
is_sync Looked = false
is_sync (Wrote at count) = false
is_sync (Tore at count) = false
is_sync Synced = true

-- the steps that the fields of a disk record
abbrev pub steps_of : Inside → List Step
steps_of disk = steps_from disk.calls.items disk.written.items []

-- a disk as contracts see it
abbrev pub tape_of : Inside → Tape
tape_of disk = record {
  first = disk.first.items;
  steps = steps_of disk;
  failing = disk.failing.items;
  stop = disk.stop;
  room = disk.room;
  faults = disk.faults;
  blunders = disk.blunders;
}

-- the recorded calls and the bytes that they wrote belong together, and they are within the room
pub record IsRecorded (disk : Inside) : Type 0 where
  pub written : written_by disk.calls.items ≡ length disk.written.items
  pub used : used_by (steps_of disk) ≡ length disk.calls.items + length disk.written.items
  pub within : length disk.calls.items + length disk.written.items ≤ disk.room

-- what the calls have come to is there
pub record HoldsContents (disk : Inside) : Type 0 where
  pub bytes : disk.bytes.items ≡ contents_after disk.first.items (steps_of disk)
  pub stable : disk.stable.items ≡ stable_after disk.first.items (steps_of disk)
  pub spans : disk.spans.items ≡ spans_after (steps_of disk)

-- no write since the last sync touched so many bytes from the front
pub record IsSame (disk : Inside) : Type 0 where
  pub same : take disk.same disk.stable.items ≡ take disk.same disk.bytes.items
  pub same_stable : disk.same ≤ length disk.stable.items
  pub same_bytes : disk.same ≤ length disk.bytes.items

-- nothing grows beyond what was recorded
pub record IsSmall (disk : Inside) : Type 0 where
  pub few_spans : length disk.spans.items ≤ length disk.calls.items
  pub few_bytes : length disk.bytes.items ≤ length disk.first.items + length disk.written.items
  pub few_stable : length disk.stable.items ≤ length disk.first.items + length disk.written.items

-- there is memory for all that may still be recorded
pub record HasMemory (disk : Inside) : Type 0 where
  pub calls_fit : disk.room ≤ vec_capacity disk.calls
  pub written_fit : disk.room ≤ vec_capacity disk.written
  pub spans_fit : disk.room ≤ vec_capacity disk.spans
  pub bytes_fit : length disk.first.items + disk.room ≤ vec_capacity disk.bytes
  pub stable_fit : length disk.first.items + disk.room ≤ vec_capacity disk.stable

-- the fields agree with the recorded calls, and there is memory for all that may still be recorded
pub record IsKept (disk : Inside) : Type 0 where
  pub recorded : IsRecorded disk
  pub contents : HoldsContents disk
  pub same : IsSame disk
  pub small : IsSmall disk
  pub memory : HasMemory disk
