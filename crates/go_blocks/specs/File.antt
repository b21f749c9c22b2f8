-- Which bytes are a log file, and of which log.
use Rattle.std.specs.Prelude.{◌≡◌, ℕ, ◌<◌, ◌≤◌, ◌+◌, ◌⊎◌, List, [], ◌∷◌, ◌++◌, All, length, slice_index}
use Rattle.std.specs.List.{flat_map}
use Rattle.std.specs.Int.{w16, w32, w64, to_le_bytes}
use Rattle.go_word.specs.declared.edge.Edge.{Edge}
use Rattle.go_word.specs.Log.{IsWithin}
use Rattle.go_word.specs.Word.{plain_word}
use Rattle.go_word.specs.declared.edge.TheConstants.{VERTEX_LIMIT}
use Rattle.go_blocks.specs.declared.layout.TheConstants.{CLOSED, MAGIC, VERSION, COUNT_LIMIT, FIRST_GATE, HEADER_LENGTH}
use Rattle.go_blocks.specs.declared.log_file.BlockPlace.{BlockPlace}
use Rattle.go_blocks.specs.Log.{Log}

-- a gate is open
pub record IsOpen (gate : ℕ) : Type 0 where
  pub open_gate : CLOSED < gate

-- a file can have so many vertices
pub record IsVertexCount (v : ℕ) : Type 0 where
  pub some : 0 < v
  pub few : v ≤ VERTEX_LIMIT

-- a block can have so many entries
pub record IsCount (n : ℕ) : Type 0 where
  pub some : 0 < n
  pub few : n ≤ COUNT_LIMIT

-- the byte of a gate, and the entries behind it
pub record Block : Type 0 where
  pub gate : ℕ
  pub entries : List Edge

-- a block of a file of v vertices
pub record IsBlock (v : ℕ) (b : Block) : Type 0 where
  pub is_open : IsOpen b.gate
  pub count : IsCount (length b.entries)
  pub within : All (IsWithin v) b.entries

-- an entry in a file: its plain word, the lowest byte first
abbrev pub word_bytes : Edge → List ℕ
word_bytes e = to_le_bytes w64 (plain_word e)

-- a block behind its gate: the count of its entries, and their words
abbrev pub body_of : List Edge → List ℕ
body_of entries = to_le_bytes w32 (length entries) ++ flat_map word_bytes entries

-- a block: its gate and its body
abbrev pub block_bytes : Block → List ℕ
block_bytes b = b.gate ∷ body_of b.entries

-- the header: a gate, the letters, the version, and the number of vertices
abbrev pub header_bytes : ℕ → ℕ → List ℕ
header_bytes gate v = gate ∷ (MAGIC ++ (to_le_bytes w16 VERSION ++ to_le_bytes w32 v))

-- the entries of blocks, in order
abbrev pub entries_of : List Block → List Edge
entries_of blocks = flat_map (λ b. b.entries) blocks

-- where blocks stand of which the first begins at a place
abbrev pub places_of : ℕ → List Block → List BlockPlace
places_of at [] = []
places_of at (b ∷ blocks) = record { gate = at; count = length b.entries } ∷ places_of (at + length (block_bytes b)) blocks

-- the bytes are a header with an open gate, and these blocks
pub record HasBlocks (v : ℕ) (blocks : List Block) (front : List ℕ) : Type 0 where
  pub gate : ℕ
  pub is_open : IsOpen gate
  pub vertices : IsVertexCount v
  pub each : All (IsBlock v) blocks
  pub bytes : front ≡ header_bytes gate v ++ flat_map block_bytes blocks

-- the bytes are all of a file of this log up to its closed gate
pub record IsFront (v : ℕ) (log : List Edge) (front : List ℕ) : Type 0 where
  pub blocks : List Block
  pub has_blocks : HasBlocks v blocks front
  pub entries : log ≡ entries_of blocks

-- behind the front stands a closed gate, and then anything
pub record IsClosedBy (front bytes : List ℕ) : Type 0 where
  pub rest : List ℕ
  pub parts : bytes ≡ front ++ CLOSED ∷ rest

-- the bytes are a file of this log
pub record File (v : ℕ) (log : List Edge) (bytes : List ℕ) : Type 0 where
  pub front : List ℕ
  pub is_front : IsFront v log front
  pub closed : IsClosedBy front bytes

-- what was read is what the bytes stand for, with the places of the blocks and of the closed gate
pub record IsReadOf (bytes : List ℕ) (file : Log) : Type 0 where
  pub blocks : List Block
  pub front : List ℕ
  pub has_blocks : HasBlocks file.vertices blocks front
  pub closed : IsClosedBy front bytes
  pub edges : file.edges ≡ entries_of blocks
  pub places : file.blocks ≡ places_of FIRST_GATE blocks
  pub gate : file.gate ≡ length front

-- a file that was not made yet: at most a byte, or at most a header whose gate is closed
abbrev pub IsUnmade : List ℕ → Type 0
IsUnmade bytes = (length bytes ≤ 1) ⊎ ((length bytes ≤ HEADER_LENGTH) × (slice_index bytes 0 ≡ CLOSED))
