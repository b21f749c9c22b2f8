-- The lines of a text, one at a time: which bytes the line at a place has, and where the next one begins.
use Rattle.std.specs.Prelude.{◌≡◌, ℕ, ◌+◌, ◌-◌, ◌<◌, ◌≤◌, ◌==◌, ◌∷◌, List, length, take, drop, min, nat_lt, if◌then◌else◌, Option, Some, None}
use Rattle.std.specs.List.{before_first, position_or_len}
use Rattle.std.specs.Str.Lines.{lines, strip_carriage_return}
use Rattle.go_text.specs.declared.line.Line.{Line}

-- how many bytes stand before the first line feed, or all where there is none
abbrev pub bytes_before_feed : List ℕ → ℕ
bytes_before_feed rest = position_or_len (λ b. b == 10) rest

-- the first line: what stands before the first line feed, without one carriage return at its end; all where there is no line feed
abbrev pub first_line : List ℕ → List ℕ
first_line rest =
    if nat_lt (bytes_before_feed rest) (length rest)
    then strip_carriage_return (before_first (λ b. b == 10) rest)
    else rest

-- the line that begins at a place before the text's end; the next one begins behind its line feed
abbrev pub line_at : List ℕ → ℕ → Line
line_at text from = record {
  start = from;
  stop = from + length (first_line (drop from text));
  next = min (from + bytes_before_feed (drop from text) + 1) (length text);
}

-- the line that begins at a place, and none at the text's end
abbrev pub line_from : List ℕ → ℕ → Option Line
line_from text from = if nat_lt from (length text) then Some (line_at text from) else None

-- the line lies in the text, begins at the place, and is the first of the lines from there on; those from its next place on are the others
pub record IsNextLine (text : List ℕ) (from : ℕ) (line : Line) : Type 0 where
  pub begins : line.start ≡ from
  pub ordered : line.start ≤ line.stop
  pub before_next : line.stop ≤ line.next
  pub inside : line.next ≤ length text
  pub advances : from < line.next
  pub first : lines (drop from text) ≡ take (line.stop - line.start) (drop line.start text) ∷ lines (drop line.next text)
