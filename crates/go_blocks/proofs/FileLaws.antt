-- Laws of log files: bytes are of one log at most, a front goes on by a block, and what comes behind the closed gate doesn't matter.
use Rattle.std.proofs.Common.{◌≡◌, ℕ, ◌+◌, ◌*◌, ◌≤◌, List, [], ◌∷◌, ◌++◌, length, take, drop, All, refl, sym, ap, subst, ◌∙◌, append_assoc, arith}
use Rattle.std.specs.List.{flat_map}
use Rattle.std.specs.Int.{w16, w32, to_le_bytes}
use Rattle.std.proofs.lemmas.List.{take_at, take-append-drop, length-append, append-nil}
use Rattle.std.proofs.lemmas.List.Elements.{All-nil, All-head, All-tail, All-push}
use Rattle.std.proofs.lemmas.List.Concat.{flat_map-append}
use Rattle.go_word.specs.declared.edge.Edge.{Edge}
use Rattle.go_word.specs.Log.{IsWithin}
use Rattle.go_word.specs.declared.edge.TheConstants.{VERTEX_LIMIT}
use Rattle.go_blocks.specs.declared.layout.TheConstants.{CLOSED, MAGIC, VERSION}
use Rattle.go_blocks.specs.File.{IsOpen, IsVertexCount, IsCount, Block, IsBlock, word_bytes, body_of, block_bytes, header_bytes, entries_of, HasBlocks}
use Rattle.go_blocks.specs.File.{IsFront, IsClosedBy, File}
use Rattle.go_blocks.proofs.Bytes.{same_parts, same_cells, same_number, length-words, same_words}

-- a body, taken apart
body-parts : (es : List Edge) (r : List ℕ) → body_of es ++ r ≡ to_le_bytes w32 (length es) ++ (flat_map word_bytes es ++ r)
body-parts es r = append_assoc (to_le_bytes w32 (length es)) (flat_map word_bytes es) r

-- the length of a body
pub length-body_of : (es : List Edge) → length (body_of es) ≡ 4 + 8 * length es
length-body_of es = omega (arith, length-append (to_le_bytes w32 (length es)) (flat_map word_bytes es), length-words es)

-- bodies that begin the same bytes are one
pub same_body : (v : ℕ) (es fs : List Edge) (r s : List ℕ) → v ≤ VERTEX_LIMIT → IsCount (length es) → IsCount (length fs) → All (IsWithin v) es
    → All (IsWithin v) fs →
    body_of es ++ r ≡ body_of fs ++ s → (es ≡ fs) × (r ≡ s)
same_body v es fs r s few count count' within within' same =
    let apart = same_parts (to_le_bytes w32 (length es)) (flat_map word_bytes es ++ r) (to_le_bytes w32 (length fs)) (flat_map word_bytes fs ++ s) refl
    (sym (body-parts es r) ∙ same ∙ body-parts fs s) in
    let len : length es ≡ length fs = same_number (length es) (length fs) (omega arith) (omega arith) apart.0 in
    same_words v es fs r s few within within' len apart.1

-- no block of a file stands at the front of the bytes with a byte behind it
abbrev pub NoBlock : ℕ → List ℕ → Type 0
NoBlock v bytes = (b : Block) (x : ℕ) (rest : List ℕ) → IsBlock v b → bytes ≡ block_bytes b ++ x ∷ rest → ⊥

-- a closed gate begins no block
pub NoBlock-closed : (v : ℕ) (rest : List ℕ) → NoBlock v (CLOSED ∷ rest)
NoBlock-closed v rest b x more block same =
    let gate : CLOSED ≡ b.gate = (same_cells CLOSED b.gate rest (body_of b.entries ++ x ∷ more) same).0 in
    omega (arith, block.is_open.open_gate)

-- the block of a gate and entries
abbrev block_of : ℕ → List Edge → Block
block_of gate entries = record { gate = gate; entries = entries }

-- a block is its gate and its entries
block_is : (g h : ℕ) (es fs : List Edge) → g ≡ h → es ≡ fs → block_of g es ≡ block_of h fs
block_is g h es fs gate entries = rw (gate, entries) refl

-- blocks of one gate and the same entries are the same
same_block : (b c : Block) → b.gate ≡ c.gate → b.entries ≡ c.entries → b ≡ c
same_block b c gate entries = block_is b.gate c.gate b.entries c.entries gate entries

-- where a block stands first there is one
starts : (v : ℕ) (b : Block) (mid : List ℕ) (x : ℕ) (rest bytes : List ℕ) → IsBlock v b → NoBlock v bytes → bytes ≡ (block_bytes b ++ mid) ++ x ∷ rest → ⊥
starts v b [] x rest bytes block none same = none b x rest block (same ∙ ap (λ (t : List ℕ). t ++ x ∷ rest) (append-nil (block_bytes b)))
starts v b (m ∷ mid) x rest bytes block none same = none b m (mid ++ x ∷ rest) block (same ∙ append_assoc (block_bytes b) (m ∷ mid) (x ∷ rest))

-- blocks that lead to no further block are the same blocks
pub same_blocks : (v : ℕ) (bs cs : List Block) (x y : ℕ) (r s : List ℕ) → v ≤ VERTEX_LIMIT → All (IsBlock v) bs → All (IsBlock v) cs → NoBlock v (x ∷ r)
    → NoBlock v (y ∷ s) →
    flat_map block_bytes bs ++ x ∷ r ≡ flat_map block_bytes cs ++ y ∷ s → (bs ≡ cs) × (x ∷ r ≡ y ∷ s)
same_blocks v [] [] x y r s few each each' last last' same = (refl, same)
same_blocks v [] (c ∷ cs) x y r s few each each' last last' same =
    absurd (starts v c (flat_map block_bytes cs) y s (x ∷ r) (All-head (IsBlock v) c cs each') last same)
same_blocks v (b ∷ bs) [] x y r s few each each' last last' same =
    absurd (starts v b (flat_map block_bytes bs) x r (y ∷ s) (All-head (IsBlock v) b bs each) last' (sym same))
same_blocks v (b ∷ bs) (c ∷ cs) x y r s few each each' last last' same =
    let block : IsBlock v b = All-head (IsBlock v) b bs each in
    let block' : IsBlock v c = All-head (IsBlock v) c cs each' in
    let cells = same_cells b.gate c.gate (body_of b.entries ++ (flat_map block_bytes bs ++ x ∷ r)) (body_of c.entries ++ (flat_map block_bytes cs ++ y ∷ s))
    (sym (append_assoc (block_bytes b) (flat_map block_bytes bs) (x ∷ r)) ∙ same ∙ append_assoc (block_bytes c) (flat_map block_bytes cs) (y ∷ s)) in
    let bodies = same_body v b.entries c.entries _ _ few block.count block'.count block.within block'.within cells.1 in
    let rest = same_blocks v bs cs x y r s few (All-tail (IsBlock v) b bs each) (All-tail (IsBlock v) c cs each') last last' bodies.1 in
    let head : b ≡ c = same_block b c cells.0 bodies.0 in
    (rw (head, rest.0) refl, rest.1)

-- a header, taken apart
header-parts : (gate v : ℕ) (r : List ℕ) → header_bytes gate v ++ r ≡ gate ∷ (MAGIC ++ (to_le_bytes w16 VERSION ++ (to_le_bytes w32 v ++ r)))
header-parts gate v r = refl

-- headers that begin the same bytes have one number of vertices
pub same_header : (g h v w : ℕ) (r s : List ℕ) → v ≤ VERTEX_LIMIT → w ≤ VERTEX_LIMIT → header_bytes g v ++ r ≡ header_bytes h w ++ s → (v ≡ w) × (r ≡ s)
same_header g h v w r s few few' same =
    let apart = same_parts (to_le_bytes w32 v) r (to_le_bytes w32 w) s refl (ap (drop 11) same) in
    (same_number v w (omega arith) (omega arith) apart.0, apart.1)

-- the blocks of bytes that have no further one are fixed, and so is what stands behind them
pub same_fronts : (v w : ℕ) (bs cs : List Block) (front front' : List ℕ) (x y : ℕ) (r s : List ℕ) → HasBlocks v bs front → HasBlocks w cs front'
    → NoBlock v (x ∷ r) → NoBlock w (y ∷ s) →
    front ++ x ∷ r ≡ front' ++ y ∷ s → (v ≡ w) × (bs ≡ cs) × (x ∷ r ≡ y ∷ s)
same_fronts v w bs cs front front' x y r s has has' last last' same =
    let apart = same_header has.gate has'.gate v w (flat_map block_bytes bs ++ x ∷ r) (flat_map block_bytes cs ++ y ∷ s) has.vertices.few has'.vertices.few
    (sym (append_assoc (header_bytes has.gate v) (flat_map block_bytes bs) (x ∷ r)) ∙ ap (λ (t : List ℕ). t ++ x ∷ r) (sym has.bytes) ∙ same
    ∙ ap (λ (t : List ℕ). t ++ y ∷ s) has'.bytes ∙ append_assoc (header_bytes has'.gate w) (flat_map block_bytes cs) (y ∷ s)) in
    let each' : All (IsBlock v) cs = subst (λ (u : ℕ). All (IsBlock u) cs) (sym apart.0) has'.each in
    let none' : NoBlock v (y ∷ s) = subst (λ (u : ℕ). NoBlock u (y ∷ s)) (sym apart.0) last' in
    let blocks = same_blocks v bs cs x y r s has.vertices.few has.each each' last none' apart.1 in
    (apart.0, blocks.0, blocks.1)

-- bytes are a file of one log at most
pub same_file : (v w : ℕ) (log log' : List Edge) (bytes : List ℕ) → File v log bytes → File w log' bytes → (v ≡ w) × (log ≡ log')
same_file v w log log' bytes file file' =
    let same = same_fronts v w file.is_front.blocks file'.is_front.blocks file.front file'.front CLOSED CLOSED file.closed.rest file'.closed.rest
    file.is_front.has_blocks file'.is_front.has_blocks (NoBlock-closed v file.closed.rest) (NoBlock-closed w file'.closed.rest) (sym file.closed.parts
    ∙ file'.closed.parts) in
    (same.0, file.is_front.entries ∙ ap entries_of same.1 ∙ sym file'.is_front.entries)

-- a header with an open gate is the front of the empty log
pub IsFront-header : (gate v : ℕ) → IsOpen gate → IsVertexCount v → IsFront v [] (header_bytes gate v)
IsFront-header gate v is_open vertices = record {
  blocks = [];
  has_blocks = record { gate = gate; is_open = is_open; vertices = vertices; each = All-nil (IsBlock v); bytes = sym (append-nil (header_bytes gate v)) };
  entries = refl;
}

-- blocks go on by a block
pub HasBlocks-more : (v : ℕ) (bs : List Block) (front : List ℕ) (b : Block) → HasBlocks v bs front → IsBlock v b
    → HasBlocks v (bs ++ b ∷ []) (front ++ block_bytes b)
HasBlocks-more v bs front b has block = record {
  gate = has.gate;
  is_open = has.is_open;
  vertices = has.vertices;
  each = All-push (IsBlock v) bs b has.each block;
  bytes = ap (λ (t : List ℕ). t ++ block_bytes b) has.bytes ∙ append_assoc (header_bytes has.gate v) (flat_map block_bytes bs) (block_bytes b)
      ∙ ap (λ (t : List ℕ). header_bytes has.gate v ++ t) (ap (λ (t : List ℕ). flat_map block_bytes bs ++ t) (sym (append-nil (block_bytes b)))
      ∙ sym (flat_map-append block_bytes bs (b ∷ [])));
}

-- the entries go on by those of the block
pub entries_of-more : (bs : List Block) (b : Block) → entries_of (bs ++ b ∷ []) ≡ entries_of bs ++ b.entries
entries_of-more bs b = flat_map-append (λ c. c.entries) bs (b ∷ []) ∙ ap (λ (t : List Edge). entries_of bs ++ t) (append-nil b.entries)

-- a front goes on by an open gate and a body
pub IsFront-more : (v : ℕ) (log : List Edge) (front : List ℕ) (gate : ℕ) (es : List Edge) → IsFront v log front → IsOpen gate → IsCount (length es)
    → All (IsWithin v) es →
    IsFront v (log ++ es) (front ++ gate ∷ body_of es)
IsFront-more v log front gate es is_front is_open count within =
    let b : Block = record { gate = gate; entries = es } in
    record {
      blocks = is_front.blocks ++ b ∷ [];
      has_blocks = HasBlocks-more v is_front.blocks front b is_front.has_blocks (record { is_open = is_open; count = count; within = within });
      entries = ap (λ (t : List Edge). t ++ es) is_front.entries ∙ sym (entries_of-more is_front.blocks b);
    }

-- what changes behind a closed gate leaves what it closes: the bytes up to it and itself are the same
pub IsClosedBy-kept : (front bytes new : List ℕ) → IsClosedBy front bytes → take (length front + 1) new ≡ take (length front + 1) bytes → IsClosedBy front new
IsClosedBy-kept front bytes new closed same =
    let regroup : bytes ≡ (front ++ CLOSED ∷ []) ++ closed.rest = closed.parts ∙ sym (append_assoc front (CLOSED ∷ []) closed.rest) in
    let kept : take (length front + 1) bytes ≡ front ++ CLOSED ∷ [] = ap (take (length front + 1)) regroup
    ∙ take_at (front ++ CLOSED ∷ []) closed.rest (length front + 1) (length-append front (CLOSED ∷ [])) in
    record {
      rest = drop (length front + 1) new;
      parts = sym (take-append-drop (length front + 1) new) ∙ ap (λ (t : List ℕ). t ++ drop (length front + 1) new) (same ∙ kept)
          ∙ append_assoc front (CLOSED ∷ []) (drop (length front + 1) new);
    }

-- a front with a closed gate behind it is a file, whatever follows
pub File-closed : (v : ℕ) (log : List Edge) (front rest : List ℕ) → IsFront v log front → File v log (front ++ CLOSED ∷ rest)
File-closed v log front rest is_front = record { front = front; is_front = is_front; closed = record { rest = rest; parts = refl } }
