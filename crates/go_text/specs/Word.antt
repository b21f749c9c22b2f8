-- The words of a line, and what one step from a place to the next word finds.
use Rattle.std.specs.Prelude.{◌≡◌, ◌⊎◌, ℕ, ◌-◌, ◌<◌, ◌≤◌, ◌==◌, ◌∷◌, Bool, true, false, ◌||◌, List, length, take, drop, filter, nat_lt, slice_index}
use Rattle.std.specs.List.{slice_split}
use Rattle.go_text.specs.declared.word.Word.{Word}

-- a space or a tab
abbrev pub is_blank : ℕ → Bool
is_blank byte = (byte == 32) || (byte == 9)

-- the parts of a line between its blanks that aren't empty
abbrev pub words : List ℕ → List (List ℕ)
words line = filter (λ part. nat_lt 0 (length part)) (slice_split is_blank line)

-- the word lies in the line at or behind the place, with blanks alone before it and none in it, and ends at a blank or at the line's end;
-- it is the first of the words from the place on, and those behind it are the others
pub record IsNextWord (line : List ℕ) (from : ℕ) (word : Word) : Type 0 where
  pub behind : from ≤ word.start
  pub has_bytes : word.start < word.stop
  pub inside : word.stop ≤ length line
  pub blanks_before : (k : ℕ) → from ≤ k → k < word.start → is_blank (slice_index line k) ≡ true
  pub no_blank_in : (k : ℕ) → word.start ≤ k → k < word.stop → is_blank (slice_index line k) ≡ false
  pub ends : (word.stop ≡ length line) ⊎ (is_blank (slice_index line word.stop) ≡ true)
  pub first : words (drop from line) ≡ take (word.stop - word.start) (drop word.start line) ∷ words (drop word.stop line)
