-- The words of a line as texts, and which lines are skipped.
use Rattle.std.specs.Prelude.{ℕ, ◌==◌, Bool, true, List, [], ◌∷◌, map, slice_index}
use Rattle.std.specs.Borrow.{Bor}

-- the bytes of each word, in order
abbrev pub texts : List (Bor (List ℕ)) → List (List ℕ)
texts words = map (λ word. word.now) words

-- a line with these words is skipped: it has no word, or its first word begins with '#'
abbrev pub is_skipped : List (List ℕ) → Bool
is_skipped [] = true
is_skipped (word ∷ others) = slice_index word 0 == 35
