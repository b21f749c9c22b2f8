-- Reading the words of a range of the log.
use Rattle.std.proofs.Common.{◌≡◌, ℕ, zero, suc, ◌+◌, ◌-◌, ◌*◌, ◌<◌, ◌≤◌, List, [], ◌∷◌, ◌++◌, length, take, drop, refl, sym, ap, ◌∙◌}
use Rattle.std.proofs.Common.{take-append-drop, take-add, append_assoc, append-nil, arith}
use Rattle.std.specs.Prelude.{All}
use Rattle.std.specs.List.{flat_map}
use Rattle.std.proofs.Math.Seq.{drop-append-add}
use Rattle.std.proofs.lemmas.List.{drop_at, drop-append-le, drop-drop, drop-take, take-take, length-take, length-drop}
use Rattle.std.proofs.lemmas.List.Elements.{All-head, All-tail, All-drop}
use Rattle.byteorder.specs.Numbers.{little_from-append, little_from-take, little_number-reads_back}
use Rattle.go_word.specs.declared.edge.Edge.{Edge}
use Rattle.go_word.specs.declared.edge.TheConstants.{VERTEX_LIMIT}
use Rattle.go_word.specs.Log.{IsWithin}
use Rattle.go_word.specs.Word.{IsStorable, plain_word, decode}
use Rattle.go_word.proofs.WordLaws.{decode-plain_word, plain_word-lt}
use Rattle.byteorder.specs.Endian.{little_number}
use Rattle.go_blocks.specs.declared.layout.TheConstants.{WORDS_AT}
use Rattle.go_blocks.specs.declared.log_file.BlockPlace.{BlockPlace}
use Rattle.go_blocks.specs.File.{word_bytes}
use Rattle.go_blocks.proofs.Bytes.{length-words, storable_within}
use Rattle.go_durable.specs.LogState.{entries_at, words_at}
use Rattle.go_durable.specs.Ranging.{HasEntry, entries_in}

-- a range was read up to this entry, and the block of this number has the next, if one is left
pub record IsAt (places : List BlockPlace) (i a at b : ℕ) : Type 0 where
  pub from : a ≤ at
  pub upto : at ≤ b
  pub next : at < b → HasEntry places i at

-- halving has come to these: the first of them begins at the entry or before it, and what is behind them doesn't have it
pub record IsBetween (places : List BlockPlace) (entry low high : ℕ) : Type 0 where
  pub within : high ≤ length places
  pub order : low ≤ high
  pub some : 0 < length places → low < high
  pub begins : entries_at (take low places) ≤ entry
  pub ends : entry < entries_at places → entry < entries_at (take high places)

-- words that stand in front are read alike, whatever stands behind
pub entries_front : (n : ℕ) (xs ys : List ℕ) → 8 * n ≤ length xs → entries_in n (xs ++ ys) ≡ entries_in n xs
entries_front zero xs ys long = refl
entries_front (suc n) xs ys long =
    ap (λ (w : ℕ). decode w ∷ entries_in n (drop 8 (xs ++ ys))) (little_from-append 8 xs ys (omega (arith, long)))
    ∙ ap (λ (l : List ℕ). decode (little_number 8 xs) ∷ entries_in n l) (drop-append-le 8 xs ys (omega (arith, long)))
    ∙ ap (λ (l : List Edge). decode (little_number 8 xs) ∷ l) (entries_front n (drop 8 xs) ys (omega (arith, long, length-drop 8 xs)))

-- the words of entries are read as these
pub entries_of_words : (v n : ℕ) (es : List Edge) → v ≤ VERTEX_LIMIT → All (IsWithin v) es → n ≤ length es → entries_in n (flat_map word_bytes es) ≡ take n es
entries_of_words v zero [] few within le = refl
entries_of_words v zero (e ∷ es) few within le = refl
entries_of_words v (suc n) [] few within le = absurd (omega (arith, le))
entries_of_words v (suc n) (e ∷ es) few within le =
    let rest : List ℕ = flat_map word_bytes es in
    let storable : IsStorable e = storable_within v e few (All-head (IsWithin v) e es within) in
    ap (λ (w : ℕ). decode w ∷ entries_in n (drop 8 (word_bytes e ++ rest))) (little_number-reads_back 8 (plain_word e) rest (plain_word-lt e storable))
    ∙ ap (λ (f : Edge). f ∷ entries_in n (drop 8 (word_bytes e ++ rest))) (decode-plain_word e storable)
    ∙ ap (λ (l : List ℕ). e ∷ entries_in n l) (drop_at (word_bytes e) rest 8 refl)
    ∙ ap (λ (l : List Edge). e ∷ l) (entries_of_words v n es few (All-tail (IsWithin v) e es within) (omega (arith, le)))

-- so many words are so many entries
pub length-entries_in : (n : ℕ) (bytes : List ℕ) → length (entries_in n bytes) ≡ n
length-entries_in zero bytes = refl
length-entries_in (suc n) bytes = omega (arith, length-entries_in n (drop 8 bytes))

-- a word more is an entry more
pub entry_more : (count counter : ℕ) (items all : List Edge) (rest word after : List ℕ) (w : ℕ) (e : Edge) → counter < count
    → items ++ entries_in (count - counter) rest ≡ all → word ≡ take 8 rest → after ≡ drop 8 rest → w ≡ little_number 8 word → e ≡ decode w
    → (items ++ e ∷ []) ++ entries_in (count - (counter + 1)) after ≡ all
entry_more count counter items all rest word after w e more so_far word_is after_is w_is e_is =
    let m : ℕ = count - (counter + 1) in
    let number : w ≡ little_number 8 rest = w_is ∙ ap (little_number 8) word_is ∙ little_from-take 0 8 8 rest (omega arith) in
    let left : suc m ≡ count - counter = omega (arith, more) in
    append_assoc items (e ∷ []) (entries_in m after)
    ∙ ap (λ (f : Edge). items ++ f ∷ entries_in m after) (e_is ∙ ap decode number)
    ∙ ap (λ (l : List ℕ). items ++ decode (little_number 8 rest) ∷ entries_in m l) after_is
    ∙ ap (λ (k : ℕ). items ++ entries_in k rest) left
    ∙ so_far

-- and with none left these are all
pub entries_done : (left : ℕ) (items all : List Edge) (rest : List ℕ) → left ≡ 0 → items ++ entries_in left rest ≡ all → items ≡ all
entries_done left items all rest none so_far = sym (append-nil items) ∙ ap (λ (k : ℕ). items ++ entries_in k rest) (sym none) ∙ so_far

-- words of a stretch that was taken out of a file are read as those at their place in it
pub taken_words : (n skip from len : ℕ) (file : List ℕ) → skip + 8 * n ≤ length (take len (drop from file))
    → entries_in n (take (8 * n) (drop skip (take len (drop from file)))) ≡ entries_in n (drop (from + skip) file)
taken_words n skip from len file long =
    let stretch : List ℕ = take len (drop from file) in
    let here : List ℕ = drop skip stretch in
    let behind : List ℕ = drop (from + skip) file in
    let size = length-take len (drop from file) in
    let same : here ≡ take (len - skip) behind =
    ap (λ (k : ℕ). drop skip (take k (drop from file))) (omega (arith, long, size)) ∙ drop-take skip (len - skip) (drop from file)
    ∙ ap (take (len - skip)) (drop-drop skip from file) in
    let enough : 8 * n ≤ length here = omega (arith, long, length-drop skip stretch) in
    sym (entries_front n (take (8 * n) here) (drop (8 * n) here) (omega (arith, enough, length-take (8 * n) here)))
    ∙ ap (entries_in n) (take-append-drop (8 * n) here)
    ∙ ap (entries_in n) same
    ∙ sym (entries_front n (take (len - skip) behind) (drop (len - skip) behind) (omega (arith, enough, ap length same)))
    ∙ ap (entries_in n) (take-append-drop (len - skip) behind)

-- the words behind the first of them
pub drop_words : (k : ℕ) (es : List Edge) → k ≤ length es → drop (8 * k) (flat_map word_bytes es) ≡ flat_map word_bytes (drop k es)
drop_words zero es le = refl
drop_words (suc k) [] le = absurd (omega (arith, le))
drop_words (suc k) (e ∷ es) le =
    ap (λ (n : ℕ). drop n (word_bytes e ++ flat_map word_bytes es)) (omega arith)
    ∙ drop-append-add (word_bytes e) (flat_map word_bytes es) (8 * k)
    ∙ drop_words k es (omega (arith, le))

-- words in the block of this place are those entries of the log
pub piece_of_place : (v : ℕ) (place : BlockPlace) (bytes : List ℕ) (es : List Edge) (skip n : ℕ) → v ≤ VERTEX_LIMIT → All (IsWithin v) es
    → length es ≡ place.count
    → words_at place bytes ≡ flat_map word_bytes es → skip + n ≤ place.count
    → entries_in n (drop (place.gate + WORDS_AT + 8 * skip) bytes) ≡ take n (drop skip es)
piece_of_place v place bytes es skip n few within size are le =
    let behind : List ℕ = drop (place.gate + WORDS_AT) bytes in
    let last : List ℕ = drop (8 * place.count) behind in
    let parts : behind ≡ flat_map word_bytes es ++ last = sym (take-append-drop (8 * place.count) behind) ∙ ap (λ (l : List ℕ). l ++ last) are in
    let from : drop (place.gate + WORDS_AT + 8 * skip) bytes ≡ flat_map word_bytes (drop skip es) ++ last =
    sym (drop-drop (8 * skip) (place.gate + WORDS_AT) bytes) ∙ ap (drop (8 * skip)) parts
    ∙ drop-append-le (8 * skip) (flat_map word_bytes es) last (omega (arith, length-words es, size, le))
    ∙ ap (λ (l : List ℕ). l ++ last) (drop_words skip es (omega (arith, size, le))) in
    ap (entries_in n) from
    ∙ entries_front n (flat_map word_bytes (drop skip es)) last (omega (arith, length-words (drop skip es), length-drop skip es, size, le))
    ∙ entries_of_words v n (drop skip es) few (All-drop (IsWithin v) skip es within) (omega (arith, length-drop skip es, size, le))

-- entries of a stretch of the log, inside of a longer one
pub inside_stretch : (start count skip n : ℕ) (log : List Edge) → skip + n ≤ count
    → take n (drop skip (take count (drop start log))) ≡ take n (drop (start + skip) log)
inside_stretch start count skip n log le =
    ap (λ (k : ℕ). take n (drop skip (take k (drop start log)))) (omega (arith, le))
    ∙ ap (take n) (drop-take skip (count - skip) (drop start log))
    ∙ take-take n (count - skip) (drop skip (drop start log)) (omega (arith, le))
    ∙ ap (take n) (drop-drop skip start log)

-- a stretch goes on by the next
pub stretch_on : (a at n : ℕ) (log : List Edge) → a ≤ at → take (at - a) (drop a log) ++ take n (drop at log) ≡ take (at + n - a) (drop a log)
stretch_on a at n log le =
    ap (λ (l : List Edge). take (at - a) (drop a log) ++ take n l) (sym (drop-drop (at - a) a log ∙ ap (λ (k : ℕ). drop k log) (omega (arith, le))))
    ∙ sym (take-add (at - a) n (drop a log))
    ∙ ap (λ (k : ℕ). take k (drop a log)) (omega (arith, le))
