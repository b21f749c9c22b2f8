-- How the words of a line begin with its first word.
use Rattle.std.proofs.Common.{◌≡◌, ℕ, ◌+◌, ◌-◌, ◌<◌, ◌≤◌, ◌⊎◌, inl, inr, List, [], ◌∷◌, length, get_or, take, drop, true, false, not, refl, sym, ap, ◌∙◌}
use Rattle.std.proofs.Common.{arith, length-drop, length-take-le}
use Rattle.std.proofs.lemmas.Bool.{cases_lt, cases_Bool}
use Rattle.std.proofs.lemmas.List.{take_all, drop_all, drop-drop, drop_more, get_or-drop}
use Rattle.std.proofs.Math.Numerals.{one-add}
use Rattle.std.proofs.lemmas.List.Splits.{slice_split-cons_yes, slice_split_first, slice_split_none}
use Rattle.std.proofs.lemmas.List.Sums.{prefix_len-le-length, prefix_len_passes, prefix_len_stops, fails_before_first, passes_at_first}
use Rattle.std.specs.List.{slice_split, position_or_len, prefix_len, before_first, after_first}
use Rattle.std.specs.Prelude.{filter, nat_lt}
use Rattle.go_text.specs.Word.{is_blank, words, IsNextWord}

-- the parts that aren't empty
abbrev pub kept_parts : List (List ℕ) → List (List ℕ)
kept_parts parts = filter (λ part. nat_lt 0 (length part)) parts

-- a blank in front changes no word
words-cons_blank : (byte : ℕ) (rest : List ℕ) → is_blank byte ≡ true → words (byte ∷ rest) ≡ words rest
words-cons_blank byte rest blank = ap kept_parts (slice_split-cons_yes is_blank byte rest blank)

-- no blank is in front of another byte
none_in_front : (byte : ℕ) (rest : List ℕ) → is_blank byte ≡ false → prefix_len is_blank (byte ∷ rest) ≡ 0
none_in_front byte rest other = rw other refl

-- the blanks in front change no word
words-drop_blanks : (rest : List ℕ) → words (drop (prefix_len is_blank rest) rest) ≡ words rest
words-drop_blanks [] = refl
words-drop_blanks (byte ∷ rest) =
    elim (cases_Bool (is_blank byte)) [
      | inl blank ↦ rw (blank, one-add (prefix_len is_blank rest)) (words-drop_blanks rest)
      | inr other ↦ ap (λ (k : ℕ). words (drop k (byte ∷ rest))) (none_in_front byte rest other)
    ]

-- a part that isn't empty is kept
kept_parts-cons : (part : List ℕ) (parts : List (List ℕ)) → 0 < length part → kept_parts (part ∷ parts) ≡ part ∷ kept_parts parts
kept_parts-cons part parts some = grind arith

-- behind the bytes before a blank there are as many words as behind that blank
words-at_blank : (tail : List ℕ) → position_or_len is_blank tail < length tail →
    words (drop (position_or_len is_blank tail) tail) ≡ words (drop (position_or_len is_blank tail + 1) tail)
words-at_blank tail parted =
    ap words (drop_more tail (position_or_len is_blank tail) 0 parted)
    ∙ words-cons_blank (get_or tail (position_or_len is_blank tail) 0) (drop (position_or_len is_blank tail + 1) tail) (passes_at_first is_blank tail 0 parted)

-- the words where a blank ends the first one
words-parted : (tail : List ℕ) → 0 < position_or_len is_blank tail → position_or_len is_blank tail < length tail →
    words tail ≡ take (position_or_len is_blank tail) tail ∷ words (drop (position_or_len is_blank tail) tail)
words-parted tail some parted =
    let long : length (take (position_or_len is_blank tail) tail) ≡ position_or_len is_blank tail =
    length-take-le (position_or_len is_blank tail) tail (omega arith) in
    ap kept_parts (slice_split_first is_blank tail 0 parted)
    ∙ kept_parts-cons (before_first is_blank tail) (slice_split is_blank (after_first is_blank tail)) (omega arith)
    ∙ ap (λ (more : List (List ℕ)). take (position_or_len is_blank tail) tail ∷ more) (sym (words-at_blank tail parted))

-- the words where the bytes end with the first one
words-alone : (tail : List ℕ) → 0 < length tail → length tail ≤ position_or_len is_blank tail →
    words tail ≡ take (position_or_len is_blank tail) tail ∷ words (drop (position_or_len is_blank tail) tail)
words-alone tail some alone =
    rw (take_all (position_or_len is_blank tail) tail alone, drop_all (position_or_len is_blank tail) tail alone)
    (ap kept_parts (slice_split_none is_blank tail (λ k d below. fails_before_first is_blank tail k d (omega arith)))
    ∙ kept_parts-cons tail [] some)

-- the words of what begins with no blank: the bytes up to the first blank, and the words from there on
words-first_word : (tail : List ℕ) → 0 < position_or_len is_blank tail →
    words tail ≡ take (position_or_len is_blank tail) tail ∷ words (drop (position_or_len is_blank tail) tail)
words-first_word tail some =
    let inside : position_or_len is_blank tail ≤ length tail = prefix_len-le-length (λ x. not (is_blank x)) tail in
    elim (cases_lt (position_or_len is_blank tail) (length tail)) [
      | inl parted ↦ words-parted tail some parted
      | inr alone ↦ words-alone tail (omega arith) alone
    ]

-- what doesn't begin with a blank has a byte before the first blank
some_before_blank : (tail : List ℕ) → 0 < length tail → is_blank (get_or tail 0 0) ≡ false → 0 < position_or_len is_blank tail
some_before_blank [] some other = absurd (omega arith)
some_before_blank (byte ∷ tail) some other = rw other (omega arith)

-- where blanks alone follow there is no word
pub words-blank : (rest : List ℕ) → length rest ≤ prefix_len is_blank rest → words rest ≡ []
words-blank rest blank = sym (words-drop_blanks rest) ∙ ap words (drop_all (prefix_len is_blank rest) rest blank)

-- a byte behind a place, counted from there
byte_behind : (line : List ℕ) (from k : ℕ) → from ≤ k → get_or line k 0 ≡ get_or (drop from line) (k - from) 0
byte_behind line from k low =
    let there : k ≡ from + (k - from) = omega arith in
    ap (λ (j : ℕ). get_or line j 0) there ∙ sym (get_or-drop from line (k - from) 0)

-- the words from a place on, given the blanks there and the length of the word behind them
words_from : (line : List ℕ) (from blanks long : ℕ) →
    blanks ≡ prefix_len is_blank (drop from line) →
    long ≡ position_or_len is_blank (drop (from + blanks) line) →
    0 < long →
    words (drop from line) ≡ take ((from + blanks + long) - (from + blanks)) (drop (from + blanks) line) ∷ words (drop (from + blanks + long) line)
words_from line from blanks long in_front in_word some =
    let some_there : 0 < position_or_len is_blank (drop (from + blanks) line) = omega arith in
    let count : position_or_len is_blank (drop (from + blanks) line) ≡ (from + blanks + long) - (from + blanks) = omega arith in
    sym (words-drop_blanks (drop from line))
    ∙ ap words (ap (λ (k : ℕ). drop k (drop from line)) (sym in_front) ∙ drop-drop blanks from line)
    ∙ words-first_word (drop (from + blanks) line) some_there
    ∙ ap (λ (k : ℕ). take k (drop (from + blanks) line) ∷ words (drop (position_or_len is_blank (drop (from + blanks) line)) (drop (from + blanks) line))) count
    ∙ ap (λ (rest : List ℕ). take ((from + blanks + long) - (from + blanks)) (drop (from + blanks) line) ∷ words rest)
    (ap (λ (k : ℕ). drop k (drop (from + blanks) line)) (sym in_word) ∙ drop-drop long (from + blanks) line)

-- a word ends with the line or at a blank
word_ends : (line : List ℕ) (start long : ℕ) → long ≡ position_or_len is_blank (drop start line) → start ≤ length line →
    (start + long ≡ length line) ⊎ (is_blank (get_or line (start + long) 0) ≡ true)
word_ends line start long in_word inside =
    let length_tail : length (drop start line) ≡ length line - start = length-drop start line in
    let within : position_or_len is_blank (drop start line) ≤ length (drop start line) = prefix_len-le-length (λ x. not (is_blank x)) (drop start line) in
    elim (cases_lt long (length (drop start line))) [
      | inl parted ↦ inr (ap is_blank (sym (get_or-drop start line long 0) ∙ ap (λ (k : ℕ). get_or (drop start line) k 0) in_word)
          ∙ passes_at_first is_blank (drop start line) 0 (omega arith))
      | inr alone ↦ inl (omega arith)
    ]

-- the word at a place, given the blanks before it and its length
word_at : (line : List ℕ) (from blanks long : ℕ) →
    blanks ≡ prefix_len is_blank (drop from line) →
    long ≡ position_or_len is_blank (drop (from + blanks) line) →
    from + blanks < length line →
    0 < long →
    IsNextWord line from (record { start = from + blanks; stop = from + blanks + long })
word_at line from blanks long in_front in_word inside some =
    let length_tail : length (drop (from + blanks) line) ≡ length line - (from + blanks) = length-drop (from + blanks) line in
    let within : position_or_len is_blank (drop (from + blanks) line) ≤ length (drop (from + blanks) line) =
    prefix_len-le-length (λ x. not (is_blank x)) (drop (from + blanks) line) in
    record {
      behind = omega arith;
      has_bytes = omega arith;
      inside = omega arith;
      blanks_before = λ k low high. ap is_blank (byte_behind line from k low) ∙ prefix_len_passes is_blank (drop from line) (k - from) 0 (omega arith);
      no_blank_in = λ k low high. ap is_blank (byte_behind line (from + blanks) k low)
          ∙ fails_before_first is_blank (drop (from + blanks) line) (k - (from + blanks)) 0 (omega arith);
      ends = word_ends line (from + blanks) long in_word (omega arith);
      first = words_from line from blanks long in_front in_word some;
    }

-- behind the blanks in front there is no blank
no_blank_behind : (line : List ℕ) (from blanks : ℕ) → blanks ≡ prefix_len is_blank (drop from line) → from + blanks < length line →
    is_blank (get_or (drop (from + blanks) line) 0 0) ≡ false
no_blank_behind line from blanks in_front inside =
    let long : length (drop from line) ≡ length line - from = length-drop from line in
    let same : from + blanks + 0 ≡ from + blanks = omega arith in
    ap is_blank
    (get_or-drop (from + blanks) line 0 0
    ∙ ap (λ (k : ℕ). get_or line k 0) same
    ∙ sym (get_or-drop from line blanks 0)
    ∙ ap (λ (k : ℕ). get_or (drop from line) k 0) in_front)
    ∙ prefix_len_stops is_blank (drop from line) 0 (omega arith)

-- the word behind the blanks in front of a place is the next word
pub next_word_is : (line : List ℕ) (from blanks long : ℕ) →
    blanks ≡ prefix_len is_blank (drop from line) →
    long ≡ position_or_len is_blank (drop (from + blanks) line) →
    from + blanks < length line →
    IsNextWord line from (record { start = from + blanks; stop = from + blanks + long })
next_word_is line from blanks long in_front in_word inside =
    let length_tail : length (drop (from + blanks) line) ≡ length line - (from + blanks) = length-drop (from + blanks) line in
    let some : 0 < position_or_len is_blank (drop (from + blanks) line) =
    some_before_blank (drop (from + blanks) line) (omega arith) (no_blank_behind line from blanks in_front inside) in
    word_at line from blanks long in_front in_word inside (omega arith)
