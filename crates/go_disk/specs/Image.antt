-- What a crash may leave of a file: the stable bytes, and what writes since the last sync may have made of them.
use Rattle.std.specs.Prelude.{◌≡◌, ◌⊎◌, ℕ, ◌<◌, ◌≤◌, max, List, [], ◌∷◌, length, All, slice_index}
use Rattle.go_disk.specs.declared.span.Span.{Span}

-- the place isn't in the span
abbrev pub IsOutside : ℕ → Span → Type 0
IsOutside place span = (place < span.from) ⊎ (span.to ≤ place)

-- the greatest of an end and the ends of spans
abbrev pub greatest_end : ℕ → List Span → ℕ
greatest_end end [] = end
greatest_end end (span ∷ spans) = greatest_end (max end span.to) spans

-- an image of stable bytes after writes to these spans, each of which may have left anything in its span: its length lies between
-- the stable one and the greatest end of a write, and each stable byte that no write touched is there
pub record IsImage (stable : List ℕ) (spans : List Span) (image : List ℕ) : Type 0 where
  pub no_shorter : length stable ≤ length image
  pub no_longer : length image ≤ greatest_end (length stable) spans
  pub elsewhere : (place : ℕ) → place < length stable → All (IsOutside place) spans → slice_index image place ≡ slice_index stable place
