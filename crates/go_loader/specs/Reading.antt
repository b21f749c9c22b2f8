-- How a file is read item by item: a text by its lines, a binary file by its words.
use Rattle.std.specs.Prelude.{◌≡◌, ℕ, ◌+◌, List, [], ◌∷◌, Option, Some, None, Result, Ok, Err}
use Rattle.go_text.specs.Steps.{◌>>=◌}
use Rattle.go_text.specs.declared.faults.FaultKind.{FaultKind}
use Rattle.go_word.specs.declared.edge.Edge.{Edge}
use Rattle.go_loader.specs.declared.fault.LoadFault.{LoadFault}
use Rattle.go_loader.specs.declared.fault.LoadFault.TheVariants.{Line, Memory}

-- how an item reads: as nothing, as an entry, or as a fault
abbrev pub Reader : Type 0
Reader = List ℕ → Result (Option Edge) FaultKind

-- an entry that was found comes before the others
abbrev pub with_found : Option Edge → List Edge → List Edge
with_found None edges = edges
with_found (Some edge) edges = edge ∷ edges

-- what item n reads as, its fault told with its number
abbrev pub at_item : ℕ → Result (Option Edge) FaultKind → Result (Option Edge) LoadFault
at_item n (Ok found) = Ok found
at_item n (Err kind) = Err (Line n kind)

-- the entries of items that are numbered from n, or the first fault
abbrev pub entries_from : Reader → ℕ → List (List ℕ) → Result (List Edge) LoadFault
entries_from reads n [] = Ok []
entries_from reads n (item ∷ more) =
    at_item n (reads item) >>= λ found. entries_from reads (n + 1) more >>= λ edges. Ok (with_found found edges)

-- what is answered of items: Ok where these are their entries, or their first fault; want of memory tells nothing of them
abbrev pub AnswersItems : Reader → List (List ℕ) → List Edge → Result (Unit {0}) LoadFault → Type 0
AnswersItems reads items edges (Ok done) = entries_from reads 1 items ≡ Ok edges
AnswersItems reads items edges (Err (Line n kind)) = entries_from reads 1 items ≡ Err (Line n kind)
AnswersItems reads items edges (Err Memory) = Unit {0}
