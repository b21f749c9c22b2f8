-- What a standing log says of its disk, and bytes of the log that they recover to.
use Rattle.std.proofs.Common.{◌≡◌, inl, inr, ℕ, List, ◌∷◌, ◌++◌, length, sym, ap, subst, ◌∙◌, arith}
use Rattle.std.specs.Prelude.{All, Option, Some, IfSome, slice_index}
use Rattle.std.specs.List.{flat_map}
use Rattle.std.proofs.lemmas.List.{length-append}
use Rattle.go_word.specs.declared.edge.Edge.{Edge}
use Rattle.go_word.specs.Log.{IsWithin}
use Rattle.go_disk.specs.Device.{Device}
use Rattle.go_blocks.specs.declared.layout.TheConstants.{CLOSED}
use Rattle.go_blocks.specs.File.{IsClosedBy, IsUnmade, File, block_bytes, header_bytes}
use Rattle.go_blocks.proofs.FileLaws.{same_file}
use Rattle.go_blocks.proofs.Steps.{front_length}
use Rattle.go_durable.specs.LogState.{LogState}
use Rattle.go_durable.specs.Recovery.{Recovers}
use Rattle.go_durable.specs.Standing.{IsLog}
use Rattle.go_durable.proofs.Attached.{entries_within}
use Rattle.go_durable.proofs.Growing.{front_of}

-- its entries are in range
pub log_within : {D : Type 0} (device : Device D) (kept : LogState D) (log : List Edge) → IsLog device kept log → All (IsWithin kept.vertices) log
log_within device kept log is = subst (All (IsWithin kept.vertices)) (sym is.entries) (entries_within kept.vertices is.blocks is.has_blocks.each)

-- what a read gives is a file of them
pub log_file : {D : Type 0} (device : Device D) (kept : LogState D) (log : List Edge) (bytes : List ℕ) → IsLog device kept log →
    device.contents kept.disk ≡ Some bytes → File kept.vertices log bytes
log_file device kept log bytes is told = record {
  front = is.bytes;
  is_front = front_of device kept log is;
  closed = subst (λ (s : Option (List ℕ)). IfSome s (IsClosedBy is.bytes)) told is.shut.closed;
}

-- and so is each image
pub log_image : {D : Type 0} (device : Device D) (kept : LogState D) (log : List Edge) (image : List ℕ) → IsLog device kept log →
    device.images kept.disk image → File kept.vertices log image
log_image device kept log image is is_image = log_file device kept log image is (is.shut.quiet.only image is_image)

-- they are the only ones
pub log_one : {D : Type 0} (device : Device D) (kept : LogState D) (log other : List Edge) (bytes : List ℕ) → device.contents kept.disk ≡ Some bytes →
    IsLog device kept log → IsLog device kept other → log ≡ other
log_one device kept log other bytes told is also =
    let same = same_file kept.vertices kept.vertices log other bytes (log_file device kept log bytes is told)
    (log_file device kept other bytes also told) in same.1

-- a file of a log was made
pub file_is_made : (v : ℕ) (log : List Edge) (bytes : List ℕ) → File v log bytes → IsUnmade bytes → ⊥
file_is_made v log bytes file (inl short) =
    omega (
      arith,
      short,
      ap length file.closed.parts,
      length-append file.front (CLOSED ∷ file.closed.rest),
      front_length v file.is_front.blocks file.front file.is_front.has_blocks,
    )
file_is_made v log bytes file (inr header) =
    let has = file.is_front.has_blocks in
    let whole : bytes ≡ header_bytes has.gate v ++ flat_map block_bytes file.is_front.blocks ++ CLOSED ∷ file.closed.rest = file.closed.parts
    ∙ ap (λ (f : List ℕ). f ++ CLOSED ∷ file.closed.rest) has.bytes in
    omega (arith, has.is_open.open_gate, sym header.1 ∙ ap (λ (b : List ℕ). slice_index b 0) whole)

-- bytes recover to one log at most
pub one_recovery : (v w : ℕ) (log other : List Edge) (bytes : List ℕ) → Recovers v log bytes → Recovers w other bytes → log ≡ other
one_recovery v w log other bytes (inl unmade) (inl also) = unmade.1 ∙ sym also.1
one_recovery v w log other bytes (inl unmade) (inr file) = absurd (file_is_made w other bytes file unmade.0)
one_recovery v w log other bytes (inr file) (inl unmade) = absurd (file_is_made v log bytes file unmade.0)
one_recovery v w log other bytes (inr file) (inr also) = let same = same_file v w log other bytes file also in same.1
