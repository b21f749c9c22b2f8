-- The steps of reading: a word, a block, a file.
use Rattle.std.proofs.Common.{◌≡◌, ℕ, ◌+◌, ◌-◌, ◌*◌, ◌%◌, ◌^◌, ◌<◌, ◌≤◌, Result, Ok, Err, List, [], ◌∷◌, ◌++◌, length, get_or, take, drop, All, refl, sym, ap}
use Rattle.std.proofs.Common.{subst, ◌∙◌, append_assoc, arith, inl, inr}
use Rattle.std.specs.Prelude.{IfOk}
use Rattle.std.specs.List.{flat_map}
use Rattle.std.specs.Int.{w32, w64, to_le_bytes, from_le_bytes}
use Rattle.std.proofs.lemmas.List.{take-append-drop, length-append, length-take, length-drop, get_or-append-add, append-nil, nil_from_length}
use Rattle.std.proofs.lemmas.List.Elements.{All-nil, All-push}
use Rattle.std.proofs.lemmas.List.Concat.{flat_map-append}
use Rattle.go_word.specs.declared.edge.Edge.{Edge}
use Rattle.go_word.specs.Log.{IsWithin}
use Rattle.go_word.specs.Word.{IsPlain, decode}
use Rattle.go_blocks.specs.declared.fault.Bad.{Bad}
use Rattle.go_blocks.specs.declared.fault.BadKind.TheVariants.{Word}
use Rattle.go_blocks.specs.declared.fault.FileFault.{FileFault}
use Rattle.go_blocks.specs.declared.fault.FileFault.TheVariants as faults
use Rattle.go_blocks.specs.declared.layout.TheConstants.{CLOSED, FIRST_GATE}
use Rattle.go_blocks.specs.declared.log_file.BlockPlace.{BlockPlace}
use Rattle.go_blocks.specs.File.{Block, IsBlock, word_bytes, block_bytes, header_bytes, entries_of, places_of, HasBlocks, IsFront, IsClosedBy, File, IsReadOf}
use Rattle.go_blocks.specs.Faults.{header_at, count_at, IsWordFault, IsBlockFault, IsFirstFault}
use Rattle.go_blocks.specs.Log.{Log}
use Rattle.go_blocks.specs.Reading.{IfBad, TakesWords, TakesBlock, IsUpTo, ReadsFile, IsReadAs, IsRefusedWith}
use Rattle.go_blocks.proofs.Bytes.{AreBytes, AreBytes-take, length-words, word_bytes-decode}
use Rattle.go_blocks.proofs.FieldLemmas.{TakesHeader, TakesCount, count_takes}
use Rattle.go_blocks.proofs.FaultLaws.{no_fault, same_fault}
use Rattle.go_blocks.proofs.FileLaws.{same_file, HasBlocks-more, entries_of-more, length-body_of}

-- eight bytes are a number of 64 bits
below_64 : (bytes : List ℕ) → AreBytes bytes → from_le_bytes w64 bytes < 2 ^ 64
below_64 bytes fits = omega (arith, fits 0, fits 1, fits 2, fits 3, fits 4, fits 5, fits 6, fits 7)

-- what stands behind bytes is bytes
pub AreBytes-behind : (front rest : List ℕ) → AreBytes (front ++ rest) → AreBytes rest
AreBytes-behind front rest fits i = subst (λ (n : ℕ). n < 256) (get_or-append-add front rest i 0) (fits (length front + i))

-- the words of the entries so far, and the bytes behind them
pub record WordsUpTo (v : ℕ) (words rest : List ℕ) (old new : List Edge) : Type 0 where
  pub more : List Edge
  pub parts : words ≡ flat_map word_bytes more ++ rest
  pub within : All (IsWithin v) more
  pub added : new ≡ old ++ more

-- before the first word none is read
pub words_start : (v : ℕ) (words : List ℕ) (old : List Edge) → WordsUpTo v words words old old
words_start v words old = record { more = []; parts = refl; within = All-nil (IsWithin v); added = sym (append-nil old) }

-- a plain word goes on by its entry
pub words_more : (v w : ℕ) (words rest : List ℕ) (old new : List Edge) → WordsUpTo v words rest old new → 8 ≤ length rest → AreBytes rest
    → w ≡ from_le_bytes w64 (take 8 rest) → IsPlain v w →
    WordsUpTo v words (drop 8 rest) old (new ++ decode w ∷ [])
words_more v w words rest old new upto long fits is plain =
    let small : w < 2 ^ 64 = rw is (below_64 (take 8 rest) (AreBytes-take 8 rest fits)) in
    let word : word_bytes (decode w) ≡ take 8 rest =
    word_bytes-decode v w (take 8 rest) (omega (arith, length-take 8 rest)) (AreBytes-take 8 rest fits) is small plain in
    let split : rest ≡ word_bytes (decode w) ++ drop 8 rest = sym (take-append-drop 8 rest) ∙ ap (λ (t : List ℕ). t ++ drop 8 rest) (sym word) in
    let one : flat_map word_bytes (upto.more ++ decode w ∷ []) ≡ flat_map word_bytes upto.more ++ word_bytes (decode w) =
    flat_map-append word_bytes upto.more (decode w ∷ []) ∙ ap (λ (t : List ℕ). flat_map word_bytes upto.more ++ t) (append-nil (word_bytes (decode w))) in
    record {
      more = upto.more ++ decode w ∷ [];
      parts = upto.parts ∙ ap (λ (t : List ℕ). flat_map word_bytes upto.more ++ t) split
          ∙ sym (append_assoc (flat_map word_bytes upto.more) (word_bytes (decode w)) (drop 8 rest)) ∙ ap (λ (t : List ℕ). t ++ drop 8 rest) (sym one);
      within = All-push (IsWithin v) upto.more (decode w) upto.within plain.within;
      added = ap (λ (t : List Edge). t ++ decode w ∷ []) upto.added ∙ append_assoc old upto.more (decode w ∷ []);
    }

-- a word that isn't plain is the first fault
pub words_fault : (v w at place : ℕ) (words rest : List ℕ) (old new : List Edge) → WordsUpTo v words rest old new → 8 ≤ length rest
    → w ≡ from_le_bytes w64 (take 8 rest) → (IsPlain v w → ⊥) →
    place ≡ at + (length words - length rest) → IsWordFault v at words (record { at = place; kind = Word })
words_fault v w at place words rest old new upto long is wrong here =
    let so_far : length words - length rest ≡ 8 * length upto.more =
    omega (arith, ap length upto.parts, length-append (flat_map word_bytes upto.more) rest, length-words upto.more) in
    record {
      before = upto.more;
      rest = rest;
      parts = upto.parts;
      fine = upto.within;
      whole = long;
      wrong = subst (λ (x : ℕ). IsPlain v x → ⊥) is wrong;
      is = ap (λ (p : ℕ). record { at = p; kind = Word }) (here ∙ ap (λ (k : ℕ). at + k) so_far);
    }

-- no bytes are left behind whole words
pub words_done : (v : ℕ) (words rest : List ℕ) (old new : List Edge) → WordsUpTo v words rest old new → length rest < 8 → length words % 8 ≡ 0
    → TakesWords v words old new
words_done v words rest old new upto short whole =
    let none : length rest ≡ 0 = omega (arith, ap length upto.parts, length-append (flat_map word_bytes upto.more) rest, length-words upto.more) in
    record {
      more = upto.more;
      parts = upto.parts ∙ ap (λ (t : List ℕ). flat_map word_bytes upto.more ++ t) (nil_from_length rest none) ∙ append-nil (flat_map word_bytes upto.more);
      within = upto.within;
      added = upto.added;
    }

-- a count and as many words are a block, up to the gate behind it
pub block_takes : (v gate n : ℕ) (rest behind : List ℕ) (old new : List Edge) → AreBytes rest → count_at gate rest ≡ Ok (n, behind)
    → TakesWords v (take (8 * n) behind) old new →
    TakesBlock v rest old new n (drop (8 * n) behind)
block_takes v gate n rest behind old new fits e words =
    let count : TakesCount rest n behind = count_takes gate rest (n, behind) fits e in
    let room : 8 * n < length behind = count.room in
    let so_many : length words.more ≡ n = omega (arith, length-words words.more, ap length words.parts, length-take (8 * n) behind) in
    let split : behind ≡ flat_map word_bytes words.more ++ drop (8 * n) behind = sym (take-append-drop (8 * n) behind)
    ∙ ap (λ (t : List ℕ). t ++ drop (8 * n) behind) words.parts in
    record {
      more = words.more;
      parts = count.parts ∙ ap (λ (t : List ℕ). to_le_bytes w32 n ++ t) split
          ∙ ap (λ (k : ℕ). to_le_bytes w32 k ++ (flat_map word_bytes words.more ++ drop (8 * n) behind)) (sym so_many)
          ∙ sym (append_assoc (to_le_bytes w32 (length words.more)) (flat_map word_bytes words.more) (drop (8 * n) behind));
      is_count = rw so_many count.count;
      within = words.within;
      added = words.added;
      counted = sym so_many;
      gate_behind = omega (arith, room, length-drop (8 * n) behind);
    }

-- the places go on by that of the block
pub places_of-more : (at : ℕ) (bs : List Block) (b : Block)
    → places_of at (bs ++ b ∷ []) ≡ places_of at bs ++ record { gate = at + length (flat_map block_bytes bs); count = length b.entries } ∷ []
places_of-more at [] b = ap (λ (g : ℕ). record { gate = g; count = length b.entries } ∷ []) (omega arith)
places_of-more at (c ∷ bs) b =
    let place : at + length (block_bytes c) + length (flat_map block_bytes bs) ≡ at + length (flat_map block_bytes (c ∷ bs)) =
    omega (arith, length-append (block_bytes c) (flat_map block_bytes bs)) in
    ap (λ (t : List BlockPlace). record { gate = at; count = length c.entries } ∷ t)
    (places_of-more (at + length (block_bytes c)) bs b
    ∙ ap (λ (g : ℕ). places_of (at + length (block_bytes c)) bs ++ record { gate = g; count = length b.entries } ∷ []) place)

-- the place of the gate behind a front
pub front_length : (v : ℕ) (bs : List Block) (front : List ℕ) → HasBlocks v bs front → length front ≡ FIRST_GATE + length (flat_map block_bytes bs)
front_length v bs front has = ap length has.bytes ∙ length-append (header_bytes has.gate v) (flat_map block_bytes bs)

-- what is read goes on by a block
pub up_to-more : (bytes rest : List ℕ) (v : ℕ) (old new : List Edge) (places : List BlockPlace) (gate byte count next : ℕ) (after : List ℕ) →
    IsUpTo bytes (byte ∷ rest) v old places gate → CLOSED < byte → TakesBlock v rest old new count after → next ≡ length bytes - length after →
    IsUpTo bytes after v new (places ++ record { gate = gate; count = count } ∷ []) next
up_to-more bytes rest v old new places gate byte count next after upto opened takes here =
    let b : Block = record { gate = byte; entries = takes.more } in
    let block : IsBlock v b = record { is_open = record { open_gate = opened }; count = takes.is_count; within = takes.within } in
    let at_gate : FIRST_GATE + length (flat_map block_bytes upto.blocks) ≡ gate = sym (upto.gate_is ∙ front_length v upto.blocks upto.front upto.has_blocks) in
    let whole : bytes ≡ (upto.front ++ block_bytes b) ++ after = upto.parts ∙ ap (λ (t : List ℕ). upto.front ++ byte ∷ t) takes.parts
    ∙ sym (append_assoc upto.front (block_bytes b) after) in
    record {
      blocks = upto.blocks ++ b ∷ [];
      front = upto.front ++ block_bytes b;
      has_blocks = HasBlocks-more v upto.blocks upto.front b upto.has_blocks block;
      parts = whole;
      edges_are = takes.added ∙ ap (λ (t : List Edge). t ++ takes.more) upto.edges_are ∙ sym (entries_of-more upto.blocks b);
      places_are = ap (λ (t : List BlockPlace). t ++ record { gate = gate; count = count } ∷ []) upto.places_are
          ∙ ap (λ (k : ℕ). places_of FIRST_GATE upto.blocks ++ record { gate = gate; count = k } ∷ []) takes.counted
          ∙ ap (λ (g : ℕ). places_of FIRST_GATE upto.blocks ++ record { gate = g; count = length takes.more } ∷ []) (sym at_gate)
          ∙ sym (places_of-more FIRST_GATE upto.blocks b);
      gate_is = here ∙ omega (arith, ap length whole, length-append (upto.front ++ block_bytes b) after);
      gate_here = takes.gate_behind;
    }

-- a list that isn't empty
pub first_cell : (xs : List ℕ) → 0 < length xs → xs ≡ get_or xs 0 0 ∷ drop 1 xs
first_cell [] some = absurd (omega arith)
first_cell (x ∷ xs) some = refl

-- the same, by the list that begins with the gate
pub up_to-next : (bytes rest : List ℕ) (v : ℕ) (old new : List Edge) (places : List BlockPlace) (gate count next : ℕ) (after : List ℕ) →
    IsUpTo bytes rest v old places gate → (get_or rest 0 0 ≡ CLOSED → ⊥) → TakesBlock v (drop 1 rest) old new count after → next ≡ length bytes - length after →
    IsUpTo bytes after v new (places ++ record { gate = gate; count = count } ∷ []) next
up_to-next bytes rest v old new places gate count next after upto opened takes here =
    let split : rest ≡ get_or rest 0 0 ∷ drop 1 rest = first_cell rest upto.gate_here in
    up_to-more bytes (drop 1 rest) v old new places gate (get_or rest 0 0) count next after
    (subst (λ (t : List ℕ). IsUpTo bytes t v old places gate) split upto) (omega (arith, opened)) takes here

-- what is read up to a closed gate is all
pub up_to-closed : (bytes rest : List ℕ) (v : ℕ) (edges : List Edge) (places : List BlockPlace) (gate : ℕ) (file : Log)
    → IsUpTo bytes (CLOSED ∷ rest) v edges places gate →
    file.vertices ≡ v → file.edges ≡ edges → file.blocks ≡ places → file.gate ≡ gate → IsReadOf bytes file
up_to-closed bytes rest v edges places gate file upto vertices_are edges_are places_are gate_is = record {
  blocks = upto.blocks;
  front = upto.front;
  has_blocks = rw vertices_are upto.has_blocks;
  closed = record { rest = rest; parts = upto.parts };
  edges = edges_are ∙ upto.edges_are;
  places = places_are ∙ upto.places_are;
  gate = gate_is ∙ upto.gate_is;
}

-- a fault of the next block is the first
pub up_to-fault : (bytes rest : List ℕ) (v : ℕ) (edges : List Edge) (places : List BlockPlace) (gate byte : ℕ) (bad : Bad)
    → IsUpTo bytes (byte ∷ rest) v edges places gate →
    CLOSED < byte → IsBlockFault v gate rest bad → IsFirstFault bytes bad
up_to-fault bytes rest v edges places gate byte bad upto opened fault = inr (record {
  vertices = v;
  log = edges;
  front = upto.front;
  gate = byte;
  rest = rest;
  is_front = record { blocks = upto.blocks; has_blocks = upto.has_blocks; entries = upto.edges_are };
  opened = record { is_open = opened; parts = upto.parts };
  block = subst (λ (g : ℕ). IsBlockFault v g rest bad) upto.gate_is fault;
})

-- what is read of a header is up to the first gate
pub up_to-start : (bytes rest : List ℕ) (v : ℕ) → TakesHeader bytes v rest → IsUpTo bytes rest v [] [] FIRST_GATE
up_to-start bytes rest v takes = record {
  blocks = [];
  front = header_bytes takes.gate v;
  has_blocks = record {
    gate = takes.gate;
    is_open = takes.is_open;
    vertices = takes.vertices;
    each = All-nil (IsBlock v);
    bytes =
        sym (append-nil (header_bytes takes.gate v));
  };
  parts = takes.parts;
  edges_are = refl;
  places_are = refl;
  gate_is = refl;
  gate_here = takes.gate_here;
}

-- blocks are longer than the words of their entries
room_of : (bs : List Block) → 8 * length (entries_of bs) ≤ length (flat_map block_bytes bs)
room_of [] = omega arith
room_of (b ∷ bs) =
    omega (arith, room_of bs, length-append (block_bytes b) (flat_map block_bytes bs), length-append b.entries (entries_of bs), length-body_of b.entries)

-- what was read is a file
pub IsReadOf-file : (bytes : List ℕ) (file : Log) → IsReadOf bytes file → File file.vertices file.edges bytes
IsReadOf-file bytes file read =
    record { front = read.front; is_front = record { blocks = read.blocks; has_blocks = read.has_blocks; entries = read.edges }; closed = read.closed }

-- its entries fit into the bytes
pub IsReadOf-fits : (bytes : List ℕ) (file : Log) → IsReadOf bytes file → 8 * length file.edges ≤ length bytes
IsReadOf-fits bytes file read =
    omega (
      arith,
      room_of read.blocks,
      ap length read.edges,
      front_length file.vertices read.blocks read.front read.has_blocks,
      ap length read.closed.parts,
      length-append read.front (CLOSED ∷ read.closed.rest),
    )

-- a fault of one kind is one of another
pub IfBad-weaker : (P Q : Bad → Type 0) → ((bad : Bad) → P bad → Q bad) → (e : FileFault) → IfBad P e → IfBad Q e
IfBad-weaker P Q so (faults.Bad bad) h = so bad h
IfBad-weaker P Q so faults.Memory h = tt

-- each file is read, unless memory runs out
pub each_file : (bytes : List ℕ) (result : Result Log FileFault) → ReadsFile bytes result → (v : ℕ) (log : List Edge) → File v log bytes → IsReadAs v log result
each_file bytes (Ok file) reads v log is = same_file file.vertices v file.edges log bytes (IsReadOf-file bytes file reads) is
each_file bytes (Err e) reads v log is = IfBad-weaker (IsFirstFault bytes) (λ _. ⊥) (λ bad fault. no_fault v log bytes bad is fault) e reads

-- each fault is told, unless memory runs out
pub each_fault : (bytes : List ℕ) (result : Result Log FileFault) → ReadsFile bytes result → (bad : Bad) → IsFirstFault bytes bad → IsRefusedWith bad result
each_fault bytes (Ok file) reads bad fault = no_fault file.vertices file.edges bytes bad (IsReadOf-file bytes file reads) fault
each_fault bytes (Err e) reads bad fault = IfBad-weaker (IsFirstFault bytes) (λ other. other ≡ bad) (λ other f. same_fault bytes other bad f fault) e reads

-- what was read fits into the bytes
pub each_fits : (bytes : List ℕ) (result : Result Log FileFault) → ReadsFile bytes result → IfOk result (λ file. 8 * length file.edges ≤ length bytes)
each_fits bytes (Ok file) reads = IsReadOf-fits bytes file reads
each_fits bytes (Err e) reads = tt

-- the fault of the header is the first
pub header_fault : (bytes : List ℕ) (bad : Bad) → header_at bytes ≡ Err bad → IsFirstFault bytes bad
header_fault bytes bad e = inl e

-- a fault of the block behind an open gate is the first, by the list that begins with the gate
pub up_to-wrong : (bytes rest : List ℕ) (v : ℕ) (edges : List Edge) (places : List BlockPlace) (gate : ℕ) (bad : Bad) → IsUpTo bytes rest v edges places gate →
    (get_or rest 0 0 ≡ CLOSED → ⊥) → IsBlockFault v gate (drop 1 rest) bad → IsFirstFault bytes bad
up_to-wrong bytes rest v edges places gate bad upto opened fault =
    up_to-fault bytes (drop 1 rest) v edges places gate (get_or rest 0 0) bad
    (subst (λ (t : List ℕ). IsUpTo bytes t v edges places gate) (first_cell rest upto.gate_here) upto) (omega (arith, opened)) fault

-- a file that was read has a front up to its closed gate
pub IsReadOf-front : (bytes : List ℕ) (file : Log) → IsReadOf bytes file
    → (front : List ℕ) × IsFront file.vertices file.edges front × IsClosedBy front bytes × (file.gate ≡ length front)
IsReadOf-front bytes file read = (read.front, record { blocks = read.blocks; has_blocks = read.has_blocks; entries = read.edges }, read.closed, read.gate)
