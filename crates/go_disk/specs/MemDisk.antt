-- A disk in memory, as contracts see it: what was done with it, from which all that it tells follows.
use Rattle.std.specs.Prelude.{◌⊎◌, ℕ, ◌+◌, ◌<◌, ◌≤◌, Bool, if◌then◌else◌, nat_lt, List, [], ◌∷◌, ◌++◌, length, Contains, Option, None, Some, IsSomeAnd}
use Rattle.std.specs.Prelude.{unwrap_or, Result, Ok, Err}
use Rattle.go_text.specs.Causes.{raised}
use Rattle.go_disk.specs.declared.span.Span.{Span}
use Rattle.go_disk.specs.Device.{Device}
use Rattle.go_disk.specs.Disk.{overwritten, blundered}
use Rattle.go_disk.specs.Image.{IsImage}

-- what a call did: nothing to the bytes, a write of bytes at a place, a failed write of so many bytes at a place, or a sync
pub data Step : Type 0 where
  looked : Step
  wrote : ℕ → List ℕ → Step
  tore : ℕ → ℕ → Step
  synced : Step

-- the bytes that a disk was made with, what its calls did, the newest first, the numbers of the calls that fail, from which number on
-- all fail, how much it may record, how often it failed, and how often a range was asked for that wasn't there
pub record Tape : Type 0 where
  pub first : List ℕ
  pub steps : List Step
  pub failing : List ℕ
  pub stop : Option ℕ
  pub room : ℕ
  pub faults : ℕ
  pub blunders : ℕ

-- what a read gives after these steps
abbrev pub contents_after : List ℕ → List Step → List ℕ
contents_after first [] = first
contents_after first (looked ∷ steps) = contents_after first steps
contents_after first (wrote at bytes ∷ steps) = overwritten (contents_after first steps) at bytes
contents_after first (tore at count ∷ steps) = contents_after first steps
contents_after first (synced ∷ steps) = contents_after first steps

-- what a read gave at the last sync, if there was one
abbrev pub base_after : List ℕ → List Step → Option (List ℕ)
base_after first [] = None
base_after first (looked ∷ steps) = base_after first steps
base_after first (wrote at bytes ∷ steps) = base_after first steps
base_after first (tore at count ∷ steps) = base_after first steps
base_after first (synced ∷ steps) = Some (contents_after first steps)

-- what can't be lost: the base, and before the first sync the bytes that the disk was made with
abbrev pub stable_after : List ℕ → List Step → List ℕ
stable_after first steps = unwrap_or (base_after first steps) first

-- where writes since the last sync may have left anything, failed ones too, the oldest first
abbrev pub spans_after : List Step → List Span
spans_after [] = []
spans_after (looked ∷ steps) = spans_after steps
spans_after (wrote at bytes ∷ steps) = spans_after steps ++ record { from = at; to = at + length bytes } ∷ []
spans_after (tore at count ∷ steps) = spans_after steps ++ record { from = at; to = at + count } ∷ []
spans_after (synced ∷ steps) = []

-- what a crash after these steps may leave
abbrev pub ImageAfter : List ℕ → List Step → List ℕ → Type 0
ImageAfter first steps image = IsImage (stable_after first steps) (spans_after steps) image

-- what a crash after some of these steps, at least so many, may leave
abbrev pub ImageSince : List ℕ → List Step → ℕ → List ℕ → Type 0
ImageSince first [] count image = ImageAfter first [] image
ImageSince first (step ∷ steps) count image = ImageAfter first (step ∷ steps) image ⊎ ((count ≤ length steps) × ImageSince first steps count image)

-- the moments of the syncs among steps, the newest first; the moment of a step is how many there were with it
abbrev pub syncs_after : List Step → List ℕ
syncs_after [] = []
syncs_after (looked ∷ steps) = syncs_after steps
syncs_after (wrote at bytes ∷ steps) = syncs_after steps
syncs_after (tore at count ∷ steps) = syncs_after steps
syncs_after (synced ∷ steps) = length (synced ∷ steps) ∷ syncs_after steps

-- how much of the room steps take: each counts 1, and each byte that it wrote 1
abbrev pub used_by : List Step → ℕ
used_by [] = 0
used_by (looked ∷ steps) = used_by steps + 1
used_by (wrote at bytes ∷ steps) = used_by steps + (1 + length bytes)
used_by (tore at count ∷ steps) = used_by steps + 1
used_by (synced ∷ steps) = used_by steps + 1

-- a disk that was just made, of which no call was asked
abbrev pub blank : List ℕ → List ℕ → Option ℕ → ℕ → Tape
blank first failing stop room = record { first = first; steps = []; failing = failing; stop = stop; room = room; faults = 0; blunders = 0 }

-- what a read of the disk gives
abbrev pub contents_of : Tape → List ℕ
contents_of tape = contents_after tape.first tape.steps

-- what a read of it gave at the last sync, if there was one
abbrev pub base_of : Tape → Option (List ℕ)
base_of tape = base_after tape.first tape.steps

-- what of it can't be lost
abbrev pub stable_of : Tape → List ℕ
stable_of tape = stable_after tape.first tape.steps

-- what a crash now may leave of it
abbrev pub IsImageOf : Tape → List ℕ → Type 0
IsImageOf tape image = ImageAfter tape.first tape.steps image

-- what a crash from a moment on might have left of it; the moment is how many steps there were
abbrev pub IsImageSince : Tape → ℕ → List ℕ → Type 0
IsImageSince tape moment image = ImageSince tape.first tape.steps moment image

-- the moments of the syncs that it recorded, the newest first
abbrev pub syncs_of : Tape → List ℕ
syncs_of tape = syncs_after tape.steps

-- what a disk in memory tells
abbrev pub mem_device : Device Tape
mem_device = record {
  contents = λ tape. Some (contents_of tape);
  base = base_of;
  images = IsImageOf;
  clock = λ tape. length tape.steps;
  since = IsImageSince;
  faults = λ tape. tape.faults;
  syncs = syncs_of;
  blunders = λ tape. tape.blunders;
}

-- there is no room for a call that costs so much
abbrev pub is_full : Tape → ℕ → Bool
is_full tape cost = nat_lt tape.room (used_by tape.steps + cost)

-- the number of the next call is one of those that fail; the recorded calls count, from 0
abbrev pub IsListed : Tape → Type 0
IsListed tape = Contains tape.failing (length tape.steps) ⊎ IsSomeAnd tape.stop (λ number. number ≤ length tape.steps)

-- a `len` or a `sync` fails
abbrev pub Fails : Tape → Type 0
Fails tape = (tape.room < used_by tape.steps + 1) ⊎ IsListed tape

-- a read of so many bytes at a place fails
abbrev pub FailsRead : Tape → ℕ → ℕ → Type 0
FailsRead tape at count = Fails tape ⊎ (length (contents_of tape) < at + count)

-- a write of so many bytes at a place fails
abbrev pub FailsWrite : Tape → ℕ → ℕ → Type 0
FailsWrite tape at count = (tape.room < used_by tape.steps + (1 + count)) ⊎ (IsListed tape ⊎ (length (contents_of tape) < at))

-- one step more
abbrev pub noted : Tape → Step → Tape
noted tape step = record tape { steps = step ∷ tape.steps }

-- one fault more
abbrev pub faulted : Tape → Tape
faulted tape = record tape { faults = raised tape.faults }

-- the bytes up to an end were asked for
abbrev pub asked : Tape → ℕ → Tape
asked tape end = record tape { blunders = blundered (Some (contents_of tape)) end tape.blunders }

-- after a call that changes no byte: one over the room changes nothing but the count of faults
abbrev pub after_look : {T E : Type 0} → Step → Tape → Result T E → Tape
after_look step tape (Ok answer) = noted tape step
after_look step tape (Err fault) = if is_full tape 1 then faulted tape else faulted (noted tape looked)

-- after a write: a failed one touches its range, unless it is over the room or begins behind the end
abbrev pub after_write : {T E : Type 0} → ℕ → List ℕ → Tape → Result T E → Tape
after_write at bytes tape (Ok answer) = noted tape (wrote at bytes)
after_write at bytes tape (Err fault) =
    if is_full tape (1 + length bytes) then faulted tape
    else (if nat_lt (length (contents_of tape)) at then faulted (noted tape looked)
    else faulted (noted tape (tore at (length bytes))))
