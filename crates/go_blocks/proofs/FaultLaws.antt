-- Laws of faults: a file has none, and other bytes have one first fault at most.
use Rattle.std.proofs.Common.{◌≡◌, ℕ, ◌+◌, ◌*◌, ◌≤◌, Result, Ok, Err, List, [], ◌∷◌, ◌++◌, length, take, All, refl, sym, ap, subst, ◌∙◌, append_assoc, arith}
use Rattle.std.proofs.Common.{inl, inr}
use Rattle.std.specs.List.{flat_map}
use Rattle.std.specs.Int.{w64, from_le_bytes}
use Rattle.std.proofs.lemmas.List.{take_at, length-append}
use Rattle.std.proofs.lemmas.List.Elements.{All-head, All-tail}
use Rattle.go_word.specs.declared.edge.Edge.{Edge}
use Rattle.go_word.specs.Log.{IsWithin}
use Rattle.go_word.specs.Word.{IsStorable, IsPlain, plain_word}
use Rattle.go_word.proofs.WordLaws.{IsPlain-plain_word}
use Rattle.go_blocks.specs.declared.fault.Bad.{Bad}
use Rattle.go_blocks.specs.declared.fault.BadKind.TheVariants.{Word}
use Rattle.go_word.specs.declared.edge.TheConstants.{VERTEX_LIMIT}
use Rattle.go_blocks.specs.declared.layout.TheConstants.{CLOSED, WORDS_AT}
use Rattle.go_blocks.specs.File.{Block, word_bytes, body_of, block_bytes, header_bytes, HasBlocks, File}
use Rattle.go_blocks.specs.Faults.{header_at, count_at, IsWordFault, IsBlockFault, IsFirstFault}
use Rattle.go_blocks.proofs.Bytes.{same_parts, same_cells, storable_within, from_word_bytes, length-words}
use Rattle.go_blocks.proofs.FieldLemmas.{header_again, count_again}
use Rattle.go_blocks.proofs.FileLaws.{NoBlock, NoBlock-closed, same_fronts}

-- the bytes begin with eight that are no plain word
pub record IsWrong (v : ℕ) (rest : List ℕ) : Type 0 where
  pub whole : 8 ≤ length rest
  pub wrong : IsPlain v (from_le_bytes w64 (take 8 rest)) → ⊥

-- no word of an entry is wrong
not_wrong : (v : ℕ) (e : Edge) (rest : List ℕ) → v ≤ VERTEX_LIMIT → IsWithin v e → IsWrong v (word_bytes e ++ rest) → ⊥
not_wrong v e rest few within wrong =
    let storable : IsStorable e = storable_within v e few within in
    let read : from_le_bytes w64 (take 8 (word_bytes e ++ rest)) ≡ plain_word e = ap (from_le_bytes w64) (take_at (word_bytes e) rest 8 refl)
    ∙ from_word_bytes e storable in
    wrong.wrong (subst (IsPlain v) (sym read) (IsPlain-plain_word v e storable within))

-- the words before a wrong one are fixed
same_before : (v : ℕ) (es fs : List Edge) (r s : List ℕ) → v ≤ VERTEX_LIMIT → All (IsWithin v) es → All (IsWithin v) fs → IsWrong v r → IsWrong v s →
    flat_map word_bytes es ++ r ≡ flat_map word_bytes fs ++ s → length es ≡ length fs
same_before v [] [] r s few within within' wrong wrong' same = refl
same_before v [] (f ∷ fs) r s few within within' wrong wrong' same =
    absurd (not_wrong v f (flat_map word_bytes fs ++ s) few (All-head (IsWithin v) f fs within')
    (subst (IsWrong v) (same ∙ append_assoc (word_bytes f) (flat_map word_bytes fs) s) wrong))
same_before v (e ∷ es) [] r s few within within' wrong wrong' same =
    absurd (not_wrong v e (flat_map word_bytes es ++ r) few (All-head (IsWithin v) e es within)
    (subst (IsWrong v) (sym same ∙ append_assoc (word_bytes e) (flat_map word_bytes es) r) wrong'))
same_before v (e ∷ es) (f ∷ fs) r s few within within' wrong wrong' same =
    let apart = same_parts (word_bytes e) (flat_map word_bytes es ++ r) (word_bytes f) (flat_map word_bytes fs ++ s) refl
    (sym (append_assoc (word_bytes e) (flat_map word_bytes es) r) ∙ same ∙ append_assoc (word_bytes f) (flat_map word_bytes fs) s) in
    let rest : length es ≡ length fs =
    same_before v es fs r s few (All-tail (IsWithin v) e es within) (All-tail (IsWithin v) f fs within') wrong wrong' apart.1 in
    omega arith

-- words of entries have no wrong one
all_plain : (v : ℕ) (es fs : List Edge) (s : List ℕ) → v ≤ VERTEX_LIMIT → All (IsWithin v) es → All (IsWithin v) fs → IsWrong v s
    → flat_map word_bytes es ≡ flat_map word_bytes fs ++ s → ⊥
all_plain v [] fs s few within within' wrong same = omega (arith, wrong.whole, length-append (flat_map word_bytes fs) s, ap length same)
all_plain v (e ∷ es) [] s few within within' wrong same =
    not_wrong v e (flat_map word_bytes es) few (All-head (IsWithin v) e es within) (subst (IsWrong v) (sym same) wrong)
all_plain v (e ∷ es) (f ∷ fs) s few within within' wrong same =
    let apart = same_parts (word_bytes e) (flat_map word_bytes es) (word_bytes f) (flat_map word_bytes fs ++ s) refl (same
    ∙ append_assoc (word_bytes f) (flat_map word_bytes fs) s) in
    all_plain v es fs s few (All-tail (IsWithin v) e es within) (All-tail (IsWithin v) f fs within') wrong apart.1

-- the wrong word of a fault
wrong_of : (v at : ℕ) (words : List ℕ) (bad : Bad) (fault : IsWordFault v at words bad) → IsWrong v fault.rest
wrong_of v at words bad fault = record { whole = fault.whole; wrong = fault.wrong }

-- the fault at a word
abbrev at_word : ℕ → ℕ → Bad
at_word at n = record { at = at + 8 * n; kind = Word }

-- words have one first fault at most
same_word_fault : (v at : ℕ) (words : List ℕ) (bad bad' : Bad) → v ≤ VERTEX_LIMIT → IsWordFault v at words bad → IsWordFault v at words bad' → bad ≡ bad'
same_word_fault v at words bad bad' few fault fault' =
    let len : length fault.before ≡ length fault'.before = same_before v fault.before fault'.before fault.rest fault'.rest few fault.fine fault'.fine
    (wrong_of v at words bad fault) (wrong_of v at words bad' fault') (sym fault.parts ∙ fault'.parts) in
    fault.is ∙ ap (at_word at) len ∙ sym fault'.is

-- answers are told apart
ok_or_err : {A : Type 0} (r : Result A Bad) (x : A) (bad : Bad) → r ≡ Ok x → r ≡ Err bad → ⊥
ok_or_err r x bad e e' = cc

-- an answer's fault
abbrev failed : {A : Type 0} → Bad → Result A Bad
failed bad = Err bad

-- is what it is
err_is : {A : Type 0} (bad bad' : Bad) → failed {A = A} bad ≡ failed {A = A} bad' → bad ≡ bad'
err_is bad bad' e = cc

-- an answer's value
abbrev done : {A : Type 0} → A → Result A Bad
done x = Ok x

-- is what it is
ok_is : {A : Type 0} (x y : A) → done x ≡ done y → x ≡ y
ok_is x y e = cc

-- two faults that one answer has
same_err : {A : Type 0} (r : Result A Bad) (bad bad' : Bad) → r ≡ Err bad → r ≡ Err bad' → bad ≡ bad'
same_err {A = A} r bad bad' e e' = err_is {A = A} bad bad' (sym e ∙ e')

-- two values that one answer has
same_ok : {A : Type 0} (r : Result A Bad) (x y : A) → r ≡ Ok x → r ≡ Ok y → x ≡ y
same_ok r x y e e' = ok_is x y (sym e ∙ e')

-- a block has one first fault at most
same_block_fault : (v gate : ℕ) (rest : List ℕ) (bad bad' : Bad) → v ≤ VERTEX_LIMIT → IsBlockFault v gate rest bad → IsBlockFault v gate rest bad' → bad ≡ bad'
same_block_fault v gate rest bad bad' few (inl e) (inl e') = same_err (count_at gate rest) bad bad' e e'
same_block_fault v gate rest bad bad' few (inl e) (inr f) = absurd (ok_or_err (count_at gate rest) (f.count, f.words) bad f.counted e)
same_block_fault v gate rest bad bad' few (inr f) (inl e) = absurd (ok_or_err (count_at gate rest) (f.count, f.words) bad' f.counted e)
same_block_fault v gate rest bad bad' few (inr f) (inr g) =
    let found = same_ok (count_at gate rest) (g.count, g.words) (f.count, f.words) g.counted f.counted in
    same_word_fault v (gate + WORDS_AT) (take (8 * f.count) f.words) bad bad' few f.word
    (subst (λ (x : ℕ × List ℕ). IsWordFault v (gate + WORDS_AT) (take (8 * x.0) x.1) bad') found g.word)

-- a block has no fault
NoBlock-fault : (v gate g : ℕ) (rest : List ℕ) (bad : Bad) → v ≤ VERTEX_LIMIT → IsBlockFault v gate rest bad → NoBlock v (g ∷ rest)
NoBlock-fault v gate g rest bad few (inl e) b x more block same =
    let body = (same_cells g b.gate rest (body_of b.entries ++ x ∷ more) same).1 in
    ok_or_err (count_at gate rest) (length b.entries, flat_map word_bytes b.entries ++ x ∷ more) bad (ap (count_at gate) body
    ∙ count_again gate b.entries x more block.count) e
NoBlock-fault v gate g rest bad few (inr f) b x more block same =
    let body = (same_cells g b.gate rest (body_of b.entries ++ x ∷ more) same).1 in
    let found = same_ok (count_at gate rest) (f.count, f.words) (length b.entries, flat_map word_bytes b.entries ++ x ∷ more) f.counted
    (ap (count_at gate) body ∙ count_again gate b.entries x more block.count) in
    let words : IsWordFault v (gate + WORDS_AT) (flat_map word_bytes b.entries) bad =
    subst (λ (t : List ℕ). IsWordFault v (gate + WORDS_AT) t bad)
    (take_at (flat_map word_bytes b.entries) (x ∷ more) (8 * length b.entries) (length-words b.entries))
    (subst (λ (y : ℕ × List ℕ). IsWordFault v (gate + WORDS_AT) (take (8 * y.0) y.1) bad) found f.word) in
    all_plain v b.entries words.before words.rest few block.within words.fine
    (wrong_of v (gate + WORDS_AT) (flat_map word_bytes b.entries) bad words) words.parts

-- blocks and a byte begin with a byte
first_of_blocks : (bs : List Block) (x : ℕ) (rest : List ℕ) → (y : ℕ) × (more : List ℕ) × (flat_map block_bytes bs ++ x ∷ rest ≡ y ∷ more)
first_of_blocks [] x rest = (x, rest, refl)
first_of_blocks (b ∷ bs) x rest = (b.gate, (body_of b.entries ++ flat_map block_bytes bs) ++ x ∷ rest, refl)

-- a front with a byte behind it has no fault in its header
header_fine : (v : ℕ) (bs : List Block) (front : List ℕ) (x : ℕ) (rest : List ℕ) (bad : Bad) → HasBlocks v bs front
    → header_at (front ++ x ∷ rest) ≡ Err bad → ⊥
header_fine v bs front x rest bad has e =
    let first = first_of_blocks bs x rest in
    let regroup : front ++ x ∷ rest ≡ header_bytes has.gate v ++ first.0 ∷ first.1 =
    ap (λ (t : List ℕ). t ++ x ∷ rest) has.bytes ∙ append_assoc (header_bytes has.gate v) (flat_map block_bytes bs) (x ∷ rest)
    ∙ ap (λ (t : List ℕ). header_bytes has.gate v ++ t) first.2 in
    ok_or_err (header_at (front ++ x ∷ rest)) (v, first.0 ∷ first.1) bad (ap header_at regroup
    ∙ header_again has.gate v first.0 first.1 has.is_open has.vertices) e

-- a file has no fault
pub no_fault : (v : ℕ) (log : List Edge) (bytes : List ℕ) (bad : Bad) → File v log bytes → IsFirstFault bytes bad → ⊥
no_fault v log bytes bad file (inl e) =
    header_fine v file.is_front.blocks file.front CLOSED file.closed.rest bad file.is_front.has_blocks (ap header_at (sym file.closed.parts) ∙ e)
no_fault v log bytes bad file (inr f) =
    let few = f.is_front.has_blocks.vertices.few in
    let same = same_fronts v f.vertices file.is_front.blocks f.is_front.blocks file.front f.front CLOSED f.gate file.closed.rest f.rest
    file.is_front.has_blocks f.is_front.has_blocks
    (NoBlock-closed v file.closed.rest) (NoBlock-fault f.vertices (length f.front) f.gate f.rest bad few f.block) (sym file.closed.parts ∙ f.opened.parts) in
    let gates : CLOSED ≡ f.gate = (same_cells CLOSED f.gate file.closed.rest f.rest same.2).0 in
    omega (arith, f.opened.is_open)

-- bytes have one first fault at most
pub same_fault : (bytes : List ℕ) (bad bad' : Bad) → IsFirstFault bytes bad → IsFirstFault bytes bad' → bad ≡ bad'
same_fault bytes bad bad' (inl e) (inl e') = same_err (header_at bytes) bad bad' e e'
same_fault bytes bad bad' (inl e) (inr f) =
    absurd (header_fine f.vertices f.is_front.blocks f.front f.gate f.rest bad f.is_front.has_blocks (ap header_at (sym f.opened.parts) ∙ e))
same_fault bytes bad bad' (inr f) (inl e) =
    absurd (header_fine f.vertices f.is_front.blocks f.front f.gate f.rest bad' f.is_front.has_blocks (ap header_at (sym f.opened.parts) ∙ e))
same_fault bytes bad bad' (inr f) (inr g) =
    let few = f.is_front.has_blocks.vertices.few in
    let few' = g.is_front.has_blocks.vertices.few in
    let none = NoBlock-fault f.vertices (length f.front) f.gate f.rest bad few f.block in
    let none' = NoBlock-fault g.vertices (length g.front) g.gate g.rest bad' few' g.block in
    let same = same_fronts f.vertices g.vertices f.is_front.blocks g.is_front.blocks f.front g.front f.gate g.gate f.rest g.rest f.is_front.has_blocks
    g.is_front.has_blocks none none' (sym f.opened.parts ∙ g.opened.parts) in
    let rests : f.rest ≡ g.rest = (same_cells f.gate g.gate f.rest g.rest same.2).1 in
    let lengths : length f.front ≡ length g.front =
    omega (
      arith,
      ap length f.opened.parts,
      ap length g.opened.parts,
      ap length rests,
      length-append f.front (f.gate ∷ f.rest),
      length-append g.front (g.gate ∷ g.rest),
    ) in
    let block : IsBlockFault f.vertices (length f.front) f.rest bad' = rw (same.0, lengths, rests) g.block in
    same_block_fault f.vertices (length f.front) f.rest bad bad' few f.block block
