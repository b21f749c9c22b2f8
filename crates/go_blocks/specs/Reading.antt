-- What the steps of reading a file answer.
use Rattle.std.specs.Prelude.{◌≡◌, ℕ, ◌<◌, List, ◌++◌, All, length, Result, Ok, Err}
use Rattle.std.specs.List.{flat_map}
use Rattle.go_word.specs.declared.edge.Edge.{Edge}
use Rattle.go_word.specs.Log.{IsWithin}
use Rattle.go_blocks.specs.declared.fault.Bad.{Bad}
use Rattle.go_blocks.specs.declared.fault.FileFault.{FileFault}
use Rattle.go_blocks.specs.declared.fault.FileFault.TheVariants as faults
use Rattle.go_blocks.specs.declared.layout.TheConstants.{FIRST_GATE}
use Rattle.go_blocks.specs.declared.log_file.BlockPlace.{BlockPlace}
use Rattle.go_blocks.specs.File.{IsCount, Block, word_bytes, body_of, entries_of, places_of, HasBlocks, IsReadOf}
use Rattle.go_blocks.specs.Faults.{IsWordFault, IsFirstFault}
use Rattle.go_blocks.specs.Log.{Log}

-- the answer of a reader, seen by view, is what reading gives
abbrev pub Shows : {X Y : Type 0} → (X → Y) → Result X Bad → Result Y Bad → Type 0
Shows view (Ok x) read = read ≡ Ok (view x)
Shows view (Err bad) read = read ≡ Err bad

-- this holds of the fault, unless memory ran out
abbrev pub IfBad : (Bad → Type 0) → FileFault → Type 0
IfBad P (faults.Bad bad) = P bad
IfBad P faults.Memory = Unit {0}

-- the entries that were added, and the words that they were read from
pub record TakesWords (v : ℕ) (words : List ℕ) (old new : List Edge) : Type 0 where
  pub more : List Edge
  pub parts : words ≡ flat_map word_bytes more
  pub within : All (IsWithin v) more
  pub added : new ≡ old ++ more

-- words are read whole, or the first that is wrong is answered
abbrev pub ReadsWords : ℕ → ℕ → List ℕ → List Edge → List Edge → Result (Unit {0}) FileFault → Type 0
ReadsWords v at words old new (Ok done) = TakesWords v words old new
ReadsWords v at words old new (Err e) = IfBad (IsWordFault v at words) e

-- the entries that were added, and the block that they were read from, up to the gate behind it
pub record TakesBlock (v : ℕ) (rest : List ℕ) (old new : List Edge) (count : ℕ) (after : List ℕ) : Type 0 where
  pub more : List Edge
  pub parts : rest ≡ body_of more ++ after
  pub is_count : IsCount (length more)
  pub within : All (IsWithin v) more
  pub added : new ≡ old ++ more
  pub counted : count ≡ length more
  pub gate_behind : 0 < length after

-- what is read up to a gate: the front that stands before it, with its entries and the places of its blocks
pub record IsUpTo (bytes rest : List ℕ) (v : ℕ) (edges : List Edge) (places : List BlockPlace) (gate : ℕ) : Type 0 where
  pub blocks : List Block
  pub front : List ℕ
  pub has_blocks : HasBlocks v blocks front
  pub parts : bytes ≡ front ++ rest
  pub edges_are : edges ≡ entries_of blocks
  pub places_are : places ≡ places_of FIRST_GATE blocks
  pub gate_is : gate ≡ length front
  pub gate_here : 0 < length rest

-- a file is read with all that it stands for, or the first fault is answered
abbrev pub ReadsFile : List ℕ → Result Log FileFault → Type 0
ReadsFile bytes (Ok file) = IsReadOf bytes file
ReadsFile bytes (Err e) = IfBad (IsFirstFault bytes) e

-- what is answered of the bytes of a file of this log: just that, unless memory ran out
abbrev pub IsReadAs : ℕ → List Edge → Result Log FileFault → Type 0
IsReadAs v log (Ok file) = (file.vertices ≡ v) × (file.edges ≡ log)
IsReadAs v log (Err e) = IfBad (λ _. ⊥) e

-- what is answered of bytes whose first fault is this: just that, unless memory ran out
abbrev pub IsRefusedWith : Bad → Result Log FileFault → Type 0
IsRefusedWith bad (Ok file) = ⊥
IsRefusedWith bad (Err e) = IfBad (λ other. other ≡ bad) e
