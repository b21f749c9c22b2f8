-- What reading the text of one name gives.
use Rattle.std.specs.Prelude.{◌≡◌, ◌⊎◌, ℕ, ◌+◌, ◌≤◌, List, length, All, Option, IfSome, Result, Ok, Err}
use Rattle.go_text.specs.Steps.{◌>>=◌}
use Rattle.go_word.specs.declared.edge.Edge.{Edge}
use Rattle.go_word.specs.Log.{IsWithin as IsEntryWithin}
use Rattle.go_loader.specs.EdgeFile.{items_of, reader_of}
use Rattle.go_loader.specs.Reading.{entries_from}
use Rattle.go_script.specs.declared.step.Step.{Step}
use Rattle.go_script.specs.Commands.{commands_of}
use Rattle.go_script.specs.Grammar.{script_of}
use Rattle.go_script.specs.Places.{IsWithin}
use Rattle.go_run.specs.Input.{Texts, text_under, steps_or, entries_or}
use Rattle.go_run.specs.declared.status.Status.{Status}
use Rattle.go_run.specs.declared.status.Status.TheVariants.{Script, NoFile, TooMuch, ReadFault, Memory}
use Rattle.go_run.specs.declared.limits.TheConstants.{TEXT_BYTES}

-- the result, or want of memory for it
abbrev pub IsOrNoMemory : {A : Type 0} → Result A Status → Result A Status → Type 0
IsOrNoMemory expected result = (result ≡ expected) ⊎ (result ≡ Err Memory)

-- what is answered where this is what the text of a name comes to: just that; or that reading it failed, or want of memory
abbrev pub IsReadAs : {A : Type 0} → List ℕ → Result A Status → Result A Status → Type 0
IsReadAs name expected (Ok x) = expected ≡ Ok x
IsReadAs name expected (Err (Script other line kind)) = expected ≡ Err (Script other line kind)
IsReadAs name expected (Err (NoFile other)) = expected ≡ Err (NoFile other)
IsReadAs name expected (Err (TooMuch counted limit)) = expected ≡ Err (TooMuch counted limit)
IsReadAs name expected (Err (ReadFault other)) = other ≡ name
IsReadAs name expected (Err Memory) = Unit {0}
IsReadAs name expected (Err _) = ⊥

-- the same of the text of a name on a shelf, by what each text comes to; where the shelf doesn't tell, of some text
pub record ReadsName {A : Type 0} (shelf : Option Texts) (name : List ℕ) (expected : Option (List ℕ) → Result A Status)
    (result : Result A Status) : Type 0 where
  pub text : Option (List ℕ)
  pub told : IfSome shelf (λ known. text ≡ known name)
  pub read : IsReadAs name (expected text) result

-- what was read, where it is done
abbrev pub with_text : List ℕ → Result (Unit {0}) Status → Result (List ℕ) Status
with_text text (Ok done) = Ok text
with_text text (Err status) = Err status

-- the steps of bytes, and the entries of bytes, read under a name over v vertices
abbrev pub steps_in : ℕ → List ℕ → List ℕ → Result (List Step) Status
steps_in v name bytes = steps_or name (script_of v bytes)

abbrev pub entries_in : ℕ → List ℕ → List ℕ → Result (List Edge) Status
entries_in v name bytes = entries_or name (entries_from (reader_of v bytes) 1 (items_of bytes))

-- the entries in the text of a name
abbrev pub list_under : ℕ → List ℕ → Option (List ℕ) → Result (List Edge) Status
list_under v name text = text_under name text >>= λ bytes. entries_in v name bytes

-- steps are over v vertices, and no more than the lines of a text
pub record AreSteps (v : ℕ) (steps : List Step) : Type 0 where
  pub within : IsWithin v (commands_of steps)
  pub few : length steps ≤ TEXT_BYTES + 1

-- entries are over v vertices, and no more than the items of a text
pub record AreEntries (v : ℕ) (list : List Edge) : Type 0 where
  pub within : All (IsEntryWithin v) list
  pub few : length list ≤ TEXT_BYTES + 1
