-- Which log the bytes of a file recover to.
use Rattle.std.specs.Prelude.{◌≡◌, ◌⊎◌, ℕ, ◌≤◌, List, [], ◌++◌, length, take, drop}
use Rattle.go_word.specs.declared.edge.Edge.{Edge}
use Rattle.go_blocks.specs.File.{File, IsUnmade}

-- a file that isn't made yet recovers to the empty log, and a file of a log to that log
abbrev pub Recovers : ℕ → List Edge → List ℕ → Type 0
Recovers v log bytes = (IsUnmade bytes × (log ≡ [])) ⊎ File v log bytes

-- a file of the log, or of the log with a block more
abbrev pub IsBeforeOrAfter : ℕ → List Edge → List Edge → List ℕ → Type 0
IsBeforeOrAfter v log edges bytes = File v log bytes ⊎ File v (log ++ edges) bytes

-- bytes recover to a part of a log from its beginning on, of at least so many entries
pub record RecoversPart (v least : ℕ) (log : List Edge) (image : List ℕ) : Type 0 where
  pub count : ℕ
  pub at_least : least ≤ count
  pub at_most : count ≤ length log
  pub recovers : Recovers v (take count log) image

-- these are the entries that a log has next behind a front
abbrev pub AreNext : List Edge → ℕ → List Edge → Type 0
AreNext edges front log = edges ≡ take (length edges) (drop front log)
