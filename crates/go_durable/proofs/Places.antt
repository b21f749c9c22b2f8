-- The kept place of a block points at the words of its entries.
use Rattle.std.proofs.Common.{◌≡◌, ℕ, zero, suc, ◌+◌, ◌*◌, List, [], ◌∷◌, ◌++◌, length, take, drop, refl, sym, ap, subst, ◌∙◌, append_assoc}
use Rattle.std.specs.Prelude.{Option, None, Some, IfSome, slice_get}
use Rattle.std.specs.List.{flat_map}
use Rattle.std.specs.Int.{w32, to_le_bytes}
use Rattle.std.proofs.Math.Seq.{drop-append-add}
use Rattle.std.proofs.lemmas.List.{take_at, drop_at, length-append}
use Rattle.std.proofs.lemmas.List.Sums.{sum_by-cons}
use Rattle.go_word.specs.declared.edge.Edge.{Edge}
use Rattle.go_disk.specs.Device.{Device}
use Rattle.go_blocks.specs.declared.layout.TheConstants.{CLOSED, FIRST_GATE, WORDS_AT}
use Rattle.go_blocks.specs.declared.log_file.BlockPlace.{BlockPlace}
use Rattle.go_blocks.specs.File.{Block, IsClosedBy, word_bytes, block_bytes, header_bytes, entries_of, places_of}
use Rattle.go_blocks.proofs.Bytes.{length-words}
use Rattle.go_durable.specs.LogState.{LogState, entries_at, words_at, entries_of_place}
use Rattle.go_durable.specs.Standing.{IsLog}

-- the words of a block behind other bytes
words_here : (b : Block) (before tail : List ℕ)
    → take (8 * length b.entries) (drop (length before + WORDS_AT) (before ++ (block_bytes b ++ tail))) ≡ flat_map word_bytes b.entries
words_here b before tail =
    let frame : List ℕ = b.gate ∷ to_le_bytes w32 (length b.entries) in
    let words : List ℕ = flat_map word_bytes b.entries in
    ap (take (8 * length b.entries)) (drop-append-add before (block_bytes b ++ tail) WORDS_AT ∙ ap (drop WORDS_AT) (append_assoc frame words tail)
    ∙ drop_at frame (words ++ tail) WORDS_AT refl)
    ∙ take_at words tail (8 * length b.entries) (length-words b.entries)

-- some isn't none
none_some : (place : BlockPlace) → None ≡ Some place → ⊥
none_some place same = cc

-- one value, one place
same_place : (one other : BlockPlace) → Some one ≡ Some other → one ≡ other
same_place one other same = cc

-- the words of each block, wherever the first begins
place_words : (blocks : List Block) (at : ℕ) (before tail : List ℕ) (i : ℕ) (place : BlockPlace) → length before ≡ at
    → slice_get (places_of at blocks) i ≡ Some place →
    words_at place (before ++ (flat_map block_bytes blocks ++ tail)) ≡ flat_map word_bytes (entries_of_place (places_of at blocks) i place (entries_of blocks))
place_words [] at before tail i place len is = absurd (none_some place is)
place_words (b ∷ blocks) at before tail zero place len is =
    let here : BlockPlace = record { gate = at; count = length b.entries } in
    let rest : List ℕ = flat_map block_bytes blocks ++ tail in
    let bytes : before ++ ((block_bytes b ++ flat_map block_bytes blocks) ++ tail) ≡ before ++ (block_bytes b ++ rest) =
    ap (λ (t : List ℕ). before ++ t) (append_assoc (block_bytes b) (flat_map block_bytes blocks) tail) in
    let words : words_at here (before ++ (block_bytes b ++ rest)) ≡ flat_map word_bytes b.entries =
    subst (λ (k : ℕ). take (8 * length b.entries) (drop (k + WORDS_AT) (before ++ (block_bytes b ++ rest))) ≡ flat_map word_bytes b.entries) len
    (words_here b before rest) in
    subst (λ (p : BlockPlace). words_at p (before ++ (flat_map block_bytes (b ∷ blocks) ++ tail))
    ≡ flat_map word_bytes (entries_of_place (places_of at (b ∷ blocks)) zero p (entries_of (b ∷ blocks))))
    (same_place here place is)
    (ap (words_at here) bytes ∙ words ∙ ap (flat_map word_bytes) (sym (take_at b.entries (entries_of blocks) (length b.entries) refl)))
place_words (b ∷ blocks) at before tail (suc i) place len is =
    let next : ℕ = at + length (block_bytes b) in
    let here : BlockPlace = record { gate = at; count = length b.entries } in
    let bytes : before ++ ((block_bytes b ++ flat_map block_bytes blocks) ++ tail) ≡ (before ++ block_bytes b) ++ (flat_map block_bytes blocks ++ tail) =
    ap (λ (t : List ℕ). before ++ t) (append_assoc (block_bytes b) (flat_map block_bytes blocks) tail)
    ∙ sym (append_assoc before (block_bytes b) (flat_map block_bytes blocks ++ tail)) in
    let later = place_words blocks next (before ++ block_bytes b) tail i place (length-append before (block_bytes b)
    ∙ ap (λ (n : ℕ). n + length (block_bytes b)) len) is in
    let skipped : drop (entries_at (here ∷ take i (places_of next blocks))) (b.entries ++ entries_of blocks)
    ≡ drop (entries_at (take i (places_of next blocks))) (entries_of blocks) =
    ap (λ (n : ℕ). drop n (b.entries ++ entries_of blocks)) (sum_by-cons (λ p. p.count) here (take i (places_of next blocks)))
    ∙ drop-append-add b.entries (entries_of blocks) (entries_at (take i (places_of next blocks))) in
    ap (words_at place) bytes ∙ later ∙ ap (λ (l : List Edge). flat_map word_bytes (take place.count l)) (sym skipped)

-- the words of each block of a log that its disk tells
pub log_places : {D : Type 0} (device : Device D) (kept : LogState D) (log : List Edge) (bytes : List ℕ) (i : ℕ) (place : BlockPlace) → IsLog device kept log →
    device.contents kept.disk ≡ Some bytes → slice_get kept.places i ≡ Some place
    → words_at place bytes ≡ flat_map word_bytes (entries_of_place kept.places i place log)
log_places device kept log bytes i place is told at =
    let closed : IsClosedBy is.bytes bytes = subst (λ (s : Option (List ℕ)). IfSome s (IsClosedBy is.bytes)) told is.shut.closed in
    let header : List ℕ = header_bytes is.has_blocks.gate kept.vertices in
    let whole : bytes ≡ header ++ (flat_map block_bytes is.blocks ++ CLOSED ∷ closed.rest) =
    closed.parts ∙ ap (λ (f : List ℕ). f ++ CLOSED ∷ closed.rest) is.has_blocks.bytes
    ∙ append_assoc header (flat_map block_bytes is.blocks) (CLOSED ∷ closed.rest) in
    ap (words_at place) whole
    ∙ place_words is.blocks FIRST_GATE header (CLOSED ∷ closed.rest) i place refl (ap (λ (l : List BlockPlace). slice_get l i) (sym is.places_are) ∙ at)
    ∙ ap (λ (l : List BlockPlace). flat_map word_bytes (entries_of_place l i place (entries_of is.blocks))) (sym is.places_are)
    ∙ ap (λ (l : List Edge). flat_map word_bytes (entries_of_place kept.places i place l)) (sym is.entries)
