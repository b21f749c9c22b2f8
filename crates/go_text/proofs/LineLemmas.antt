-- How the lines of a text begin with its first line.
use Rattle.std.proofs.Common.{◌≡◌, ℕ, ◌+◌, ◌-◌, ◌<◌, ◌≤◌, List, [], ◌∷◌, length, take, drop, min, ◌⊎◌, inl, inr, Bool, true, false, not, refl, sym, ap, ◌∙◌}
use Rattle.std.proofs.Common.{arith, length-drop, length-take, length-take-le}
use Rattle.std.proofs.lemmas.List.{take-take, take_all, drop_all, drop-drop, drop_min, take_min}
use Rattle.std.proofs.lemmas.Bool.{cases_lt}
use Rattle.std.proofs.lemmas.List.Splits.{slice_split_first, slice_split_none, length-slice_split}
use Rattle.std.proofs.lemmas.List.Sums.{prefix_len-le-length, fails_before_first}
use Rattle.std.specs.List.{slice_split, before_first, after_first}
use Rattle.std.specs.Prelude.{◌==◌, if◌then◌else◌, slice_index}
use Rattle.std.specs.Str.Lines.{lines, lines_of_parts, strip_carriage_return}
use Rattle.go_text.specs.Line.{bytes_before_feed, first_line, line_at, IsNextLine}

-- a byte is a line feed
abbrev pub is_feed : ℕ → Bool
is_feed byte = byte == 10

-- a part before others is a line that ends at a line feed
part_before_others : (part : List ℕ) (parts : List (List ℕ)) → 0 < length parts →
    lines_of_parts (part ∷ parts) ≡ strip_carriage_return part ∷ lines_of_parts parts
part_before_others part [] some = absurd (omega arith)
part_before_others part (next ∷ more) some = refl

-- the lines where there is a line feed
lines-fed : (rest : List ℕ) → bytes_before_feed rest < length rest → lines rest
    ≡ strip_carriage_return (before_first is_feed rest) ∷ lines (drop (bytes_before_feed rest + 1) rest)
lines-fed rest fed =
    ap lines_of_parts (slice_split_first is_feed rest 0 fed)
    ∙ part_before_others _ (slice_split is_feed (after_first is_feed rest)) (omega (arith, length-slice_split is_feed (after_first is_feed rest)))

-- one part alone is a line, where it has a byte
one_part : (part : List ℕ) → 0 < length part → lines_of_parts (part ∷ []) ≡ part ∷ []
one_part part some = grind arith

-- the lines where there is no line feed
lines-unfed : (rest : List ℕ) → 0 < length rest → length rest ≤ bytes_before_feed rest → lines rest ≡ rest ∷ []
lines-unfed rest some unfed =
    ap lines_of_parts (slice_split_none is_feed rest (λ k d below. fails_before_first is_feed rest k d (omega arith)))
    ∙ one_part rest some

-- the first line, where there is a line feed and where there is none
first_line-fed : (rest : List ℕ) → bytes_before_feed rest < length rest → first_line rest ≡ strip_carriage_return (before_first is_feed rest)
first_line-fed rest fed = grind arith

first_line-unfed : (rest : List ℕ) → length rest ≤ bytes_before_feed rest → first_line rest ≡ rest
first_line-unfed rest unfed = grind arith

-- the first line and the bytes before its line feed, in both cases
either : (rest : List ℕ) → (bytes_before_feed rest < length rest) ⊎ (length rest ≤ bytes_before_feed rest)
either rest = cases_lt (bytes_before_feed rest) (length rest)

-- the lines of what has a byte: the first one, and those behind its line feed
lines-first_line : (rest : List ℕ) → 0 < length rest → lines rest ≡ first_line rest ∷ lines (drop (bytes_before_feed rest + 1) rest)
lines-first_line rest some =
    elim (either rest) [
      | inl fed ↦ rw (first_line-fed rest fed) (lines-fed rest fed)
      | inr unfed ↦ rw (first_line-unfed rest unfed, drop_all (bytes_before_feed rest + 1) rest (omega arith)) (lines-unfed rest some unfed)
    ]

-- the front of a front, where that is no longer
shorter_front : (m n : ℕ) (rest : List ℕ) → m ≤ length (take n rest) →
    (take (length (take m (take n rest))) rest ≡ take m (take n rest)) × (length (take m (take n rest)) ≤ n)
shorter_front m n rest short =
    let long : length (take n rest) ≡ min n (length rest) = length-take n rest in
    let kept : length (take m (take n rest)) ≡ m = length-take-le m (take n rest) short in
    (rw kept (sym (take-take m n rest (omega arith))), omega arith)

-- the front of a list is as many of its elements as it has
take_length-take : (n : ℕ) (rest : List ℕ) → take (length (take n rest)) rest ≡ take n rest
take_length-take n rest = rw length-take (take_min n rest)

-- a line without its carriage return is as many of its bytes as that has
stripped_is_front : (n : ℕ) (rest : List ℕ) → (take (length (strip_carriage_return (take n rest))) rest ≡ strip_carriage_return (take n rest))
    × (length (strip_carriage_return (take n rest)) ≤ n)
stripped_is_front n rest =
    elim (slice_index (take n rest) (length (take n rest) - 1) == 13) as
    (λ b. let l : List ℕ = if b then take (length (take n rest) - 1) (take n rest) else take n rest in (take (length l) rest ≡ l) × (length l ≤ n)) [
      | true ↦ shorter_front (length (take n rest) - 1) n rest (omega arith)
      | false ↦ (take_length-take n rest, omega (arith, length-take n rest))
    ]

-- the first line is the front of the rest, and lies before the line feed
first_line_is_front : (rest : List ℕ) → (take (length (first_line rest)) rest ≡ first_line rest) × (length (first_line rest) ≤ bytes_before_feed rest)
first_line_is_front rest =
    elim (either rest) [
      | inl fed ↦ rw (first_line-fed rest fed) (stripped_is_front (bytes_before_feed rest) rest)
      | inr unfed ↦ rw (first_line-unfed rest unfed) (take_all (length rest) rest (omega arith), unfed)
    ]

-- the lines from a place on, by the places of the line and of the next one
line_and_others : (text : List ℕ) (from : ℕ) →
    take (length (first_line (drop from text))) (drop from text) ≡ first_line (drop from text) →
    lines (drop from text) ≡ first_line (drop from text) ∷ lines (drop (bytes_before_feed (drop from text) + 1) (drop from text)) →
    lines (drop from text) ≡ take ((from + length (first_line (drop from text))) - from) (drop from text) ∷ lines
    (drop (min (from + bytes_before_feed (drop from text) + 1) (length text)) text)
line_and_others text from front split =
    let long : (from + length (first_line (drop from text))) - from ≡ length (first_line (drop from text)) = omega arith in
    let there : from + (bytes_before_feed (drop from text) + 1) ≡ from + bytes_before_feed (drop from text) + 1 = omega arith in
    let others : drop (bytes_before_feed (drop from text) + 1) (drop from text)
    ≡ drop (min (from + bytes_before_feed (drop from text) + 1) (length text)) text =
    drop-drop (bytes_before_feed (drop from text) + 1) from text ∙ ap (λ (k : ℕ). drop k text) there
    ∙ sym (drop_min (from + bytes_before_feed (drop from text) + 1) text) in
    let line : first_line (drop from text) ≡ take ((from + length (first_line (drop from text))) - from) (drop from text) = sym (rw long front) in
    split
    ∙ ap (λ (l : List ℕ). l ∷ lines (drop (bytes_before_feed (drop from text) + 1) (drop from text))) line
    ∙ ap (λ (more : List ℕ). take ((from + length (first_line (drop from text))) - from) (drop from text) ∷ lines more) others

-- the line at a place is the next line
pub line_at_is_next : (text : List ℕ) (from : ℕ) → from < length text → IsNextLine text from (line_at text from)
line_at_is_next text from inside =
    let front = first_line_is_front (drop from text) in
    let before : bytes_before_feed (drop from text) ≤ length (drop from text) = prefix_len-le-length (λ x. not (is_feed x)) (drop from text) in
    let long : length (drop from text) ≡ length text - from = length-drop from text in
    record {
      begins = refl;
      ordered = omega arith;
      before_next = omega (arith, front.1);
      inside = omega arith;
      advances = omega arith;
      first = line_and_others text from front.0 (lines-first_line (drop from text) (omega arith));
    }
