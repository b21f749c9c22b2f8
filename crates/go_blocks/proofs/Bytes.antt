-- Numbers and words as bytes, and what stands behind them.
use Rattle.std.proofs.Common.{◌≡◌, ℕ, ◌+◌, ◌*◌, ◌^◌, ◌<◌, ◌≤◌, List, [], ◌∷◌, ◌++◌, length, get_or, take, drop, All, refl, sym, ap, ◌∙◌, append_assoc, arith}
use Rattle.std.proofs.Common.{inl, inr}
use Rattle.std.specs.List.{flat_map}
use Rattle.std.specs.Int.{w32, w64, from_le_bytes, to_le_bytes}
use Rattle.std.proofs.lemmas.Bool.{cases_lt}
use Rattle.std.proofs.lemmas.List.{take_at, drop_at, length-append, length-take, get_or-drop, get_or-take, get_or_past}
use Rattle.std.proofs.lemmas.List.Elements.{All-head, All-tail}
use Rattle.std.proofs.lemmas.Nat.{le_bytes_8, from_le_bytes-to_le_bytes_4, from_le_bytes-to_le_bytes_8}
use Rattle.go_word.specs.declared.edge.Edge.{Edge}
use Rattle.go_word.specs.Log.{IsWithin}
use Rattle.go_word.specs.Word.{IsStorable, IsPlain, plain_word, decode}
use Rattle.go_word.proofs.WordLaws.{decode-plain_word, plain_word-lt, plain_word-decode, IsStorable-IsWithin}
use Rattle.go_word.specs.declared.edge.TheConstants.{VERTEX_LIMIT}
use Rattle.go_blocks.specs.File.{word_bytes}

-- each number is that of a byte
abbrev pub AreBytes : List ℕ → Type 0
AreBytes bytes = (i : ℕ) → get_or bytes i 0 < 256

-- and so are those behind the first
pub AreBytes-drop : (n : ℕ) (bytes : List ℕ) → AreBytes bytes → AreBytes (drop n bytes)
AreBytes-drop n bytes h i = rw get_or-drop (h (n + i))

-- and the first
pub AreBytes-take : (n : ℕ) (bytes : List ℕ) → AreBytes bytes → AreBytes (take n bytes)
AreBytes-take n bytes h i =
    elim (cases_lt i n) [
      | inl lt ↦ rw (get_or-take n bytes i 0 lt) (h i)
      | inr le ↦ rw (get_or_past (take n bytes) i 0 (omega (arith, length-take n bytes))) (omega arith)
    ]

-- two lists that begin with lists of one length begin alike and go on alike
pub same_parts : (a b c d : List ℕ) → length a ≡ length c → a ++ b ≡ c ++ d → (a ≡ c) × (b ≡ d)
same_parts a b c d len e =
    let front : take (length c) (a ++ b) ≡ a = take_at a b (length c) len in
    let front' : take (length c) (c ++ d) ≡ c = take_at c d (length c) refl in
    let back : drop (length c) (a ++ b) ≡ b = drop_at a b (length c) len in
    let back' : drop (length c) (c ++ d) ≡ d = drop_at c d (length c) refl in
    (sym front ∙ ap (take (length c)) e ∙ front', sym back ∙ ap (drop (length c)) e ∙ back')

-- the cells of a list
pub same_cells : (x y : ℕ) (xs ys : List ℕ) → x ∷ xs ≡ y ∷ ys → (x ≡ y) × (xs ≡ ys)
same_cells x y xs ys e = (cc, cc)

-- a number of four bytes, by its bytes
pub same_number : (m n : ℕ) → m < 2 ^ 32 → n < 2 ^ 32 → to_le_bytes w32 m ≡ to_le_bytes w32 n → m ≡ n
same_number m n small small' e = sym (from_le_bytes-to_le_bytes_4 m small) ∙ ap (from_le_bytes w32) e ∙ from_le_bytes-to_le_bytes_4 n small'

-- a word has eight bytes
pub length-word_bytes : (e : Edge) → length (word_bytes e) ≡ 8
length-word_bytes e = refl

-- so words have eight bytes for each entry
pub length-words : (es : List Edge) → length (flat_map word_bytes es) ≡ 8 * length es
length-words [] = refl
length-words (e ∷ es) = omega (arith, length-append (word_bytes e) (flat_map word_bytes es), length-words es, length-word_bytes e)

-- a word that is read is that of its entry
pub from_word_bytes : (e : Edge) → IsStorable e → from_le_bytes w64 (word_bytes e) ≡ plain_word e
from_word_bytes e storable = from_le_bytes-to_le_bytes_8 (plain_word e) (plain_word-lt e storable)

-- eight bytes that are a plain word are the word of the entry that is read
pub word_bytes-decode : (v w : ℕ) (bytes : List ℕ) → length bytes ≡ 8 → AreBytes bytes → w ≡ from_le_bytes w64 bytes → w < 2 ^ 64 → IsPlain v w
    → word_bytes (decode w) ≡ bytes
word_bytes-decode v w bytes len fits is small plain =
    ap (to_le_bytes w64) (plain_word-decode v w small plain) ∙ le_bytes_8 bytes w len fits is

-- an entry, by its word
pub same_word : (e f : Edge) → IsStorable e → IsStorable f → word_bytes e ≡ word_bytes f → e ≡ f
same_word e f storable storable' same =
    let words : plain_word e ≡ plain_word f = sym (from_word_bytes e storable) ∙ ap (from_le_bytes w64) same ∙ from_word_bytes f storable' in
    sym (decode-plain_word e storable) ∙ ap decode words ∙ decode-plain_word f storable'

-- what is within the vertices of a file can stand in a word
pub storable_within : (v : ℕ) (e : Edge) → v ≤ VERTEX_LIMIT → IsWithin v e → IsStorable e
storable_within v e few within = IsStorable-IsWithin v e (omega arith) within

-- as many entries, by their words
pub same_words : (v : ℕ) (es fs : List Edge) (r s : List ℕ) → v ≤ VERTEX_LIMIT → All (IsWithin v) es → All (IsWithin v) fs → length es ≡ length fs →
    flat_map word_bytes es ++ r ≡ flat_map word_bytes fs ++ s → (es ≡ fs) × (r ≡ s)
same_words v [] [] r s few within within' len same = (refl, same)
same_words v [] (f ∷ fs) r s few within within' len same = absurd (omega arith)
same_words v (e ∷ es) [] r s few within within' len same = absurd (omega arith)
same_words v (e ∷ es) (f ∷ fs) r s few within within' len same =
    let apart = same_parts (word_bytes e) (flat_map word_bytes es ++ r) (word_bytes f) (flat_map word_bytes fs ++ s) refl
    (sym (append_assoc (word_bytes e) (flat_map word_bytes es) r) ∙ same ∙ append_assoc (word_bytes f) (flat_map word_bytes fs) s) in
    let head : e ≡ f =
    same_word e f (storable_within v e few (All-head (IsWithin v) e es within)) (storable_within v f few (All-head (IsWithin v) f fs within')) apart.0 in
    let rest = same_words v es fs r s few (All-tail (IsWithin v) e es within) (All-tail (IsWithin v) f fs within') (omega arith) apart.1 in
    (rw (head, rest.0) refl, rest.1)
