-- The first place that offends in bytes that are no log file.
use Rattle.std.specs.Prelude.{◌≡◌, ◌⊎◌, ℕ, ◌+◌, ◌*◌, ◌<◌, ◌≤◌, ◌==◌, ◌&&◌, not, Bool, if◌then◌else◌, nat_lt, nat_le, List, [], ◌∷◌, ◌++◌, All, length, take}
use Rattle.std.specs.Prelude.{drop, position, Option, Some, None, Result, Ok, Err}
use Rattle.std.specs.List.{flat_map, zip}
use Rattle.std.specs.Int.{w16, w32, w64, from_le_bytes}
use Rattle.go_word.specs.declared.edge.Edge.{Edge}
use Rattle.go_word.specs.Log.{IsWithin}
use Rattle.go_word.specs.Word.{IsPlain}
use Rattle.go_blocks.specs.declared.fault.Bad.{Bad}
use Rattle.go_blocks.specs.declared.fault.BadKind.{BadKind}
use Rattle.go_blocks.specs.declared.fault.BadKind.TheVariants.{Magic, Version, Vertices, Count, Short, Word}
use Rattle.go_word.specs.declared.edge.TheConstants.{VERTEX_LIMIT}
use Rattle.go_blocks.specs.declared.layout.TheConstants.{CLOSED, MAGIC_AT, MAGIC, VERSION_AT, VERSION, VERTICES_AT, FIRST_GATE, COUNT_AT, WORDS_AT, COUNT_LIMIT}
use Rattle.go_blocks.specs.File.{IsFront, word_bytes}

-- this is wrong at this place
abbrev pub fault : {A : Type 0} → ℕ → BadKind → Result A Bad
fault at kind = Err (record { at = at; kind = kind })

-- one field after the other, up to the first that is at fault
infixl 10 ◌>>=◌
abbrev pub ◌>>=◌ : {A B : Type 0} → Result A Bad → (A → Result B Bad) → Result B Bad
(Ok x) >>= f = f x
(Err b) >>= f = Err b

-- the gate of the header, and what stands behind it
unfoldable pub gate_at : List ℕ → Result (List ℕ) Bad
gate_at [] = fault 0 Short
gate_at (gate ∷ rest) = if gate == CLOSED then fault 0 Magic else Ok rest

-- what letters come to, by the first of them that differs
abbrev pub judged : Option ℕ → List ℕ → Result (List ℕ) Bad
judged None rest = Ok rest
judged (Some k) rest = fault (MAGIC_AT + k) Magic

-- two letters differ
abbrev pub differs : ℕ × ℕ → Bool
differs pair = not (pair.0 == pair.1)

-- the letters
unfoldable pub letters_at : List ℕ → Result (List ℕ) Bad
letters_at rest = if nat_lt (length rest) 8 then fault MAGIC_AT Short else judged (position differs (zip MAGIC (take 8 rest))) (drop 8 rest)

-- the version
unfoldable pub version_at : List ℕ → Result (List ℕ) Bad
version_at rest =
    if nat_lt (length rest) 2 then fault VERSION_AT Short else if from_le_bytes w16 (take 2 rest) == VERSION then Ok (drop 2 rest) else fault VERSION_AT Version

-- the number of vertices
unfoldable pub vertices_at : List ℕ → Result (ℕ × List ℕ) Bad
vertices_at rest =
    if nat_lt (length rest) 4 then fault VERTICES_AT Short else (let v = from_le_bytes w32 (take 4 rest) in
    if nat_lt 0 v && nat_le v VERTEX_LIMIT then Ok (v, drop 4 rest) else fault VERTICES_AT Vertices)

-- behind the header there is a gate
unfoldable pub first_gate_at : ℕ × List ℕ → Result (ℕ × List ℕ) Bad
first_gate_at found = if length found.1 == 0 then fault FIRST_GATE Short else Ok found

-- the header: the number of vertices, and the bytes from the gate of the first block on
unfoldable pub header_at : List ℕ → Result (ℕ × List ℕ) Bad
header_at bytes = gate_at bytes >>= letters_at >>= version_at >>= vertices_at >>= first_gate_at

-- behind an open gate at a place: the count of the block, and the bytes behind the count, which have its words and a gate
unfoldable pub count_at : ℕ → List ℕ → Result (ℕ × List ℕ) Bad
count_at gate rest =
    if nat_lt (length rest) 4 then fault (gate + COUNT_AT) Short else (let n = from_le_bytes w32 (take 4 rest) in
    if nat_lt 0 n && nat_le n COUNT_LIMIT then
    (if nat_le (length (drop 4 rest)) (8 * n) then fault (gate + COUNT_AT) Short else Ok (n, drop 4 rest)) else fault (gate + COUNT_AT) Count)

-- in words that begin at a place, the first that is no plain word over v vertices is this one
pub record IsWordFault (v at : ℕ) (words : List ℕ) (bad : Bad) : Type 0 where
  pub before : List Edge
  pub rest : List ℕ
  pub parts : words ≡ flat_map word_bytes before ++ rest
  pub fine : All (IsWithin v) before
  pub whole : 8 ≤ length rest
  pub wrong : IsPlain v (from_le_bytes w64 (take 8 rest)) → ⊥
  pub is : bad ≡ record { at = at + 8 * length before; kind = Word }

-- a block's words are at fault
pub record IsWordsFault (v gate : ℕ) (rest : List ℕ) (bad : Bad) : Type 0 where
  pub count : ℕ
  pub words : List ℕ
  pub counted : count_at gate rest ≡ Ok (count, words)
  pub word : IsWordFault v (gate + WORDS_AT) (take (8 * count) words) bad

-- behind an open gate at a place, the block is at fault
abbrev pub IsBlockFault : ℕ → ℕ → List ℕ → Bad → Type 0
IsBlockFault v gate rest bad = (count_at gate rest ≡ Err bad) ⊎ IsWordsFault v gate rest bad

-- the bytes are a front, an open gate, and these behind it
pub record IsOpenedBy (front : List ℕ) (gate : ℕ) (rest bytes : List ℕ) : Type 0 where
  pub is_open : CLOSED < gate
  pub parts : bytes ≡ front ++ gate ∷ rest

-- behind the front of a file the next block is at fault
pub record IsFaultBehind (bytes : List ℕ) (bad : Bad) : Type 0 where
  pub vertices : ℕ
  pub log : List Edge
  pub front : List ℕ
  pub gate : ℕ
  pub rest : List ℕ
  pub is_front : IsFront vertices log front
  pub opened : IsOpenedBy front gate rest bytes
  pub block : IsBlockFault vertices (length front) rest bad

-- the first place that offends: in the header, or in the block behind a front
abbrev pub IsFirstFault : List ℕ → Bad → Type 0
IsFirstFault bytes bad = (header_at bytes ≡ Err bad) ⊎ IsFaultBehind bytes bad
