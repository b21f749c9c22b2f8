-- What a sync and a write do to all that a disk in memory tells.
use Rattle.std.proofs.Common.{◌≡◌, ℕ, ◌+◌, ◌≤◌, List, [], ◌∷◌, ◌++◌, length, refl, sym, ◌∙◌, ap, subst, arith}
use Rattle.std.specs.Prelude.{Some}
use Rattle.go_disk.specs.Disk.{Torn, Tears, IsSynced}
use Rattle.go_disk.specs.Image.{greatest_end, IsImage}
use Rattle.go_disk.specs.ImageLaws.{contents_is_one}
use Rattle.go_disk.specs.MemDisk.{wrote, tore, synced, Tape, stable_after, spans_after, ImageAfter, contents_of, mem_device, noted, faulted, asked}
use Rattle.go_disk.proofs.TornLemmas.{before_tear, only_stable}

-- a sync that succeeds
pub synced_step : (old new : Tape) → new ≡ noted old synced → IsSynced mem_device old new
synced_step old new is = subst (IsSynced mem_device old) (sym is) (record {
  contents = refl;
  base = refl;
  only = λ image is_image. ap (λ (l : List ℕ). Some l) (sym (only_stable (contents_of old) image is_image));
  images = λ image is_image. subst (ImageAfter old.first old.steps) (sym (only_stable (contents_of old) image is_image)) (contents_is_one old.first old.steps);
  syncs = refl;
})

-- no place behind the end has been reached
reached : (old : Tape) (at : ℕ) → at ≤ length (contents_of old) → at ≤ greatest_end (length (stable_after old.first old.steps)) (spans_after old.steps)
reached old at within = omega (arith, within, (contents_is_one old.first old.steps).no_longer)

-- an image after a write is one before it, torn
tears_by : (old : Tape) (at n : ℕ) → at ≤ length (contents_of old) → (image : List ℕ)
    → IsImage (stable_after old.first old.steps) (spans_after old.steps ++ record { from = at; to = at + n } ∷ []) image
    → (before : List ℕ) × ImageAfter old.first old.steps before × Torn at n before image
tears_by old at n within image is_image =
    let from = before_tear (stable_after old.first old.steps) (spans_after old.steps) at n image (reached old at within) is_image in
    (from.was, from.is_image, from.torn)

-- a write that fails, though its place is a good one
pub tears_failing : (old mid torn new : Tape) (at n end : ℕ) → at ≤ length (contents_of old) → mid ≡ asked old end → torn ≡ noted mid (tore at n)
    → new ≡ faulted torn
    → Tears mem_device at n old new
tears_failing old mid torn new at n end within asked_is noted_is faulted_is =
    subst (Tears mem_device at n old) (sym (faulted_is ∙ ap faulted noted_is ∙ ap (λ (t : Tape). faulted (noted t (tore at n))) asked_is))
    (record { base = refl; images = tears_by old at n within; syncs = refl })

-- and one that succeeds
pub tears_writing : (old mid new : Tape) (at end : ℕ) (bytes : List ℕ) → at ≤ length (contents_of old) → mid ≡ asked old end → new ≡ noted mid (wrote at bytes)
    → Tears mem_device at (length bytes) old new
tears_writing old mid new at end bytes within asked_is is =
    subst (Tears mem_device at (length bytes) old) (sym (is ∙ ap (λ (t : Tape). noted t (wrote at bytes)) asked_is))
    (record { base = refl; images = tears_by old at (length bytes) within; syncs = refl })
