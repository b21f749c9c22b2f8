-- Why what a disk in memory tells meets the laws of disks.
use Rattle.std.proofs.Common.{◌≡◌, ◌⊎◌, inl, inr, ℕ, ◌+◌, ◌-◌, ◌<◌, ◌≤◌, List, [], ◌∷◌, ◌++◌, length, get_or, take, drop, refl, sym, ◌∙◌, ap, subst, arith}
use Rattle.std.proofs.Common.{length-append, length-take, length-drop}
use Rattle.std.specs.Prelude.{max, min, All, Option, None, Some, unwrap_or}
use Rattle.std.proofs.lemmas.List.{get_or_append_left, get_or-take, get_or-drop, get_or-append_right, get_or_push}
use Rattle.std.proofs.lemmas.Option.{none-some}
use Rattle.go_disk.specs.declared.span.Span.{Span}
use Rattle.go_disk.specs.Device.{IsDevice}
use Rattle.go_disk.specs.Disk.{overwritten}
use Rattle.go_disk.specs.Image.{IsOutside, greatest_end, IsImage}
use Rattle.go_disk.specs.MemDisk.{Step, looked, wrote, tore, synced, Tape, contents_after, base_after, stable_after, spans_after, ImageAfter, ImageSince}
use Rattle.go_disk.specs.MemDisk.{contents_of, mem_device}

-- the greatest end is none before
pub greatest_end-above : (end : ℕ) (spans : List Span) → end ≤ greatest_end end spans
greatest_end-above end [] = omega arith
greatest_end-above end (span ∷ spans) = omega (arith, greatest_end-above (max end span.to) spans)

-- one span more
pub greatest_end-push : (end : ℕ) (spans : List Span) (span : Span) → greatest_end end (spans ++ span ∷ []) ≡ max (greatest_end end spans) span.to
greatest_end-push end [] span = refl
greatest_end-push end (one ∷ spans) span = greatest_end-push (max end one.to) spans span

-- what is outside of all spans is outside of the last, and of those before it
pub outside_last : (place : ℕ) (spans : List Span) (span : Span) → All (IsOutside place) (spans ++ span ∷ []) → IsOutside place span
outside_last place spans span outside =
    subst (IsOutside place) (get_or_push spans span span (length spans) refl) (outside (length spans) span (omega (arith, length-append spans (span ∷ []))))

pub outside_rest : (place : ℕ) (spans : List Span) (span : Span) → All (IsOutside place) (spans ++ span ∷ []) → All (IsOutside place) spans
outside_rest place spans span outside = λ k d below.
    subst (IsOutside place) (get_or_append_left spans (span ∷ []) d k below) (outside k d (omega (arith, length-append spans (span ∷ []))))

-- the stable bytes are an image
pub at_rest : (stable : List ℕ) (spans : List Span) → IsImage stable spans stable
at_rest stable spans = record {
  no_shorter = omega arith;
  no_longer = greatest_end-above (length stable) spans;
  elsewhere = λ place below outside. refl;
}

-- an image stays one where a further write has done nothing
pub more_spans : (stable : List ℕ) (spans : List Span) (span : Span) (image : List ℕ) → IsImage stable spans image → IsImage stable (spans ++ span ∷ []) image
more_spans stable spans span image is = record {
  no_shorter = is.no_shorter;
  no_longer = omega (arith, is.no_longer, greatest_end-push (length stable) spans span);
  elsewhere = λ place below outside. is.elsewhere place below (outside_rest place spans span outside);
}

-- how long bytes are after a write
pub length-overwritten : (old : List ℕ) (at : ℕ) (bytes : List ℕ) → length (overwritten old at bytes) ≡ min at (length old) +
    (length bytes + (length old - (at + length bytes)))
length-overwritten old at bytes =
    omega (
      arith,
      length-append (take at old) (bytes ++ drop (at + length bytes) old),
      length-append bytes (drop (at + length bytes) old),
      length-take at old,
      length-drop (at + length bytes) old,
    )

-- a write leaves the bytes before it
pub before_written : (old : List ℕ) (at : ℕ) (bytes : List ℕ) (place : ℕ) → place < length old → place < at → get_or
    (overwritten old at bytes) place 0 ≡ get_or old place 0
before_written old at bytes place below before =
    get_or_append_left (take at old) (bytes ++ drop (at + length bytes) old) 0 place (omega (arith, length-take at old)) ∙ get_or-take at old place 0 before

-- and those behind it
pub behind_written : (old : List ℕ) (at : ℕ) (bytes : List ℕ) (place : ℕ) → place < length old → at + length bytes ≤ place
    → get_or (overwritten old at bytes) place 0 ≡ get_or old place 0
behind_written old at bytes place below behind =
    get_or-append_right (take at old) (bytes ++ drop (at + length bytes) old) at place 0 (omega (arith, length-take at old)) (omega arith)
    ∙ get_or-append_right bytes (drop (at + length bytes) old) (length bytes) (place - at) 0 refl (omega arith)
    ∙ get_or-drop (at + length bytes) old (place - at - length bytes) 0
    ∙ ap (λ (k : ℕ). get_or old k 0) (omega arith)

pub beside_written : (old : List ℕ) (at : ℕ) (bytes : List ℕ) (place : ℕ) → place < length old → (place < at) ⊎ (at + length bytes ≤ place)
    → get_or (overwritten old at bytes) place 0 ≡ get_or old place 0
beside_written old at bytes place below (inl before) = before_written old at bytes place below before
beside_written old at bytes place below (inr behind) = behind_written old at bytes place below behind

-- an image stays one when it is written
pub written_image : (stable : List ℕ) (spans : List Span) (at : ℕ) (bytes image : List ℕ) → IsImage stable spans image
    → IsImage stable (spans ++ record { from = at; to = at + length bytes } ∷ []) (overwritten image at bytes)
written_image stable spans at bytes image is =
    let span : Span = record { from = at; to = at + length bytes } in
    record {
      no_shorter = omega (arith, is.no_shorter, length-overwritten image at bytes);
      no_longer = omega (arith, is.no_longer, length-overwritten image at bytes, greatest_end-push (length stable) spans span);
      elsewhere = λ place below outside.
          beside_written image at bytes place (omega (arith, below, is.no_shorter)) (outside_last place spans span outside)
          ∙ is.elsewhere place below (outside_rest place spans span outside);
    }

-- what a read gives is an image
pub contents_is_one : (first : List ℕ) (steps : List Step) → ImageAfter first steps (contents_after first steps)
contents_is_one first [] = at_rest first []
contents_is_one first (looked ∷ steps) = contents_is_one first steps
contents_is_one first (wrote at bytes ∷ steps) = written_image (stable_after first steps) (spans_after steps) at bytes (contents_after first steps)
    (contents_is_one first steps)
contents_is_one first (tore at count ∷ steps) = more_spans (stable_after first steps) (spans_after steps) (record { from = at; to = at + count })
    (contents_after first steps) (contents_is_one first steps)
contents_is_one first (synced ∷ steps) = at_rest (contents_after first steps) []

pub told_is_image : (tape : Tape) (bytes : List ℕ) → Some (contents_of tape) ≡ Some bytes → ImageAfter tape.first tape.steps bytes
told_is_image tape bytes told = subst (ImageAfter tape.first tape.steps) (ap (λ (o : Option (List ℕ)). unwrap_or o []) told)
    (contents_is_one tape.first tape.steps)

-- so is the base
pub base_is_one : (tape : Tape) (bytes : List ℕ) → base_after tape.first tape.steps ≡ Some bytes → ImageAfter tape.first tape.steps bytes
base_is_one tape bytes told = subst (ImageAfter tape.first tape.steps) (ap (λ (o : Option (List ℕ)). unwrap_or o tape.first) told)
    (at_rest (stable_after tape.first tape.steps) (spans_after tape.steps))

-- the images of now are among those since any moment, and since this moment there are no others
pub counts_last : (first : List ℕ) (steps : List Step) (t : ℕ) (image : List ℕ) → ImageAfter first steps image → ImageSince first steps t image
counts_last first [] t image is = is
counts_last first (step ∷ steps) t image is = inl is

pub only_last : (first : List ℕ) (steps : List Step) (image : List ℕ) → ImageSince first steps (length steps) image → ImageAfter first steps image
only_last first [] image is = is
only_last first (step ∷ steps) image (inl is) = is
only_last first (step ∷ steps) image (inr past) = absurd (omega (arith, past.0))

-- a disk in memory tells
pub never_untold : (tape : Tape) → Some (contents_of tape) ≡ None → (base_after tape.first tape.steps ≡ None) ×
    ((image : List ℕ) → ImageAfter tape.first tape.steps image → ⊥)
never_untold tape untold = absurd (none-some (contents_of tape) (sym untold))

-- it keeps the laws of disks
pub mem_rules : IsDevice mem_device
mem_rules = record {
  contents_is_image = told_is_image;
  base_is_image = base_is_one;
  untold = never_untold;
  counts_now = λ tape t image passed is_image. counts_last tape.first tape.steps t image is_image;
  only_now = λ tape image is_one. only_last tape.first tape.steps image is_one;
}
