-- An image after a write is an image before it that the write tore.
use Rattle.std.proofs.Common.{◌≡◌, ◌⊎◌, inl, inr, ℕ, zero, suc, ◌+◌, ◌-◌, ◌<◌, ◌≤◌, List, [], ◌∷◌, ◌++◌, length, get_or, take, drop, refl, sym, ◌∙◌, ap}
use Rattle.std.proofs.Common.{arith, length-append, length-take, length-drop}
use Rattle.std.specs.Prelude.{min, All}
use Rattle.std.proofs.lemmas.List.{get_or_append_left, get_or-take, get_or-drop, get_or-append_right, take_at, drop_all, ext_get_or}
use Rattle.std.proofs.lemmas.List.Elements.{All-push, All-nil}
use Rattle.go_disk.specs.declared.span.Span.{Span}
use Rattle.go_disk.specs.Disk.{overwritten, Torn}
use Rattle.go_disk.specs.Image.{IsOutside, greatest_end, IsImage}
use Rattle.go_disk.specs.ImageLaws.{greatest_end-above, greatest_end-push, length-overwritten, beside_written}

-- nothing may have been torn
pub torn_nothing : (at n : ℕ) (image : List ℕ) → Torn at n image image
torn_nothing at n image = record { before = refl; after = refl; no_shorter = omega arith; no_longer = omega arith }

-- an image before the write, and what the write made of it
pub record Before (stable : List ℕ) (spans : List Span) (at n : ℕ) (image : List ℕ) : Type 0 where
  pub was : List ℕ
  pub is_image : IsImage stable spans was
  pub torn : Torn at n was image

-- one number is at most the other, or above it
le_or_lt : (m n : ℕ) → (m ≤ n) ⊎ (n < m)
le_or_lt zero n = inl (omega arith)
le_or_lt (suc m) zero = inr (omega arith)
le_or_lt (suc m) (suc n) = elim (le_or_lt m n) as (λ _. (suc m ≤ suc n) ⊎ (suc n < suc m)) [
  | inl le ↦ inl (omega (arith, le))
  | inr lt ↦ inr
      (omega (arith, lt))
]

-- inside of what is written stand the bytes
inside_written : (old : List ℕ) (at : ℕ) (bytes : List ℕ) (place : ℕ) → at ≤ length old → at ≤ place → place < at + length bytes
    → get_or (overwritten old at bytes) place 0 ≡ get_or bytes (place - at) 0
inside_written old at bytes place within from below =
    get_or-append_right (take at old) (bytes ++ drop (at + length bytes) old) at place 0 (omega (arith, length-take at old)) from
    ∙ get_or_append_left bytes (drop (at + length bytes) old) 0 (place - at) (omega arith)

module _ (stable : List ℕ) (spans : List Span) (at n : ℕ) (image : List ℕ) (reached : at ≤ greatest_end (length stable) spans)
    (is : IsImage stable (spans ++ record { from = at; to = at + n } ∷ []) image) where
  abbrev span : Span
  span = record { from = at; to = at + n }

  -- where no earlier write touched, the image is the stable bytes outside of the range
  outside_range : (place : ℕ) → place < length stable → All (IsOutside place) spans → IsOutside place span → get_or image place 0 ≡ get_or stable place 0
  outside_range place below outside beside = is.elsewhere place below (All-push (IsOutside place) spans span outside beside)

  -- an image that ends before the range was one before
  pub short : length image < at → Before stable spans at n image
  short ends = record {
    was = image;
    is_image = record {
      no_shorter = is.no_shorter;
      no_longer = omega (arith, reached);
      elsewhere = λ place below outside. outside_range place below outside (inl (omega (arith, below, is.no_shorter)));
    };
    torn = torn_nothing at n image;
  }

  -- one that ends in the range came from its front and stable bytes
  pub in_range : at ≤ length image → length image ≤ at + n → Before stable spans at n image
  in_range from ends =
      let was : List ℕ = take at image ++ drop at stable in
      let front : length (take at image) ≡ at = omega (arith, length-take at image) in
      let size : length was ≡ at + (length stable - at) = omega (arith, front, length-append (take at image) (drop at stable), length-drop at stable) in
      record {
        was = was;
        is_image = record {
          no_shorter = omega (arith, size);
          no_longer = omega (arith, size, reached, greatest_end-above (length stable) spans);
          elsewhere = λ place below outside.
              elim (le_or_lt at place) as (λ _. get_or was place 0 ≡ get_or stable place 0) [
                | inl behind ↦
                    get_or-append_right (take at image) (drop at stable) at place 0 front behind
                    ∙ get_or-drop at stable (place - at) 0 ∙ ap (λ (k : ℕ). get_or stable k 0) (omega arith)
                | inr before ↦
                    get_or_append_left (take at image) (drop at stable) 0 place (omega (arith, front, before)) ∙ get_or-take at image place 0 before
                    ∙ outside_range place below outside (inl before)
              ];
        };
        torn = record {
          before = sym (take_at (take at image) (drop at stable) at front);
          after = drop_all (at + n) image ends ∙ sym (drop_all (at + n) was (omega (arith, size, is.no_shorter)));
          no_shorter = omega (arith, size, is.no_shorter);
          no_longer = omega arith;
        };
      }

  -- one that ends behind the range came from itself, with stable bytes in the range
  pub long : at + n < length image → Before stable spans at n image
  long ends =
      let middle : List ℕ = take n (drop at stable) in
      let was : List ℕ = overwritten image at middle in
      let some : length middle ≡ min n (length stable - at) = omega (arith, length-take n (drop at stable), length-drop at stable) in
      let size : length was ≡ length image = omega (arith, length-overwritten image at middle, some) in
      let front : length (take at image) ≡ at = omega (arith, length-take at image) in
      record {
        was = was;
        is_image = record {
          no_shorter = omega (arith, size, is.no_shorter);
          no_longer = omega (arith, size, is.no_longer, ends, greatest_end-push (length stable) spans span);
          elsewhere = λ place below outside.
              elim (le_or_lt at place) as (λ _. get_or was place 0 ≡ get_or stable place 0) [
                | inl from ↦
                    elim (le_or_lt (at + n) place) as (λ _. get_or was place 0 ≡ get_or stable place 0) [
                      | inl past ↦
                          beside_written image at middle place (omega (arith, below, is.no_shorter)) (inr (omega (arith, past, some)))
                          ∙ outside_range place below outside (inr past)
                      | inr within ↦
                          inside_written image at middle place (omega (arith, ends)) from (omega (arith, within, some, below))
                          ∙ get_or-take n (drop at stable) (place - at) 0 (omega (arith, within, from))
                          ∙ get_or-drop at stable (place - at) 0 ∙ ap (λ (k : ℕ). get_or stable k 0) (omega arith)
                    ]
                | inr before ↦
                    beside_written image at middle place (omega (arith, below, is.no_shorter)) (inl before)
                    ∙ outside_range place below outside (inl before)
              ];
        };
        torn = record {
          before = sym (take_at (take at image) (middle ++ drop (at + length middle) image) at front);
          after = ext_get_or 0 (drop (at + n) image) (drop (at + n) was) (omega (arith, size, length-drop (at + n) image, length-drop (at + n) was)) (λ k below.
              get_or-drop (at + n) image k 0
              ∙ sym (get_or-drop (at + n) was k 0 ∙ beside_written image at middle (at + n + k) (omega (arith, below, length-drop (at + n) image))
              (inr (omega (arith, some)))));
          no_shorter = omega (arith, size);
          no_longer = omega (arith, size);
        };
      }

  pub before_tear : Before stable spans at n image
  before_tear = elim (le_or_lt at (length image)) as (λ _. Before stable spans at n image) [
    | inl from ↦ elim (le_or_lt (length image) (at + n)) as (λ _. Before stable spans at n image) [
      | inl ends ↦ in_range from ends
      | inr ends ↦ long ends
    ]
    | inr ends ↦ short ends
  ]

-- after a sync the one image is what was synced
pub only_stable : (stable image : List ℕ) → IsImage stable [] image → image ≡ stable
only_stable stable image is = ext_get_or 0 image stable (omega (arith, is.no_shorter, is.no_longer)) (λ place below.
    is.elsewhere place (omega (arith, below, is.no_longer)) (All-nil (IsOutside place)))
