-- Lemmas on reading item by item: what was read stands in front of what is read of the rest.
use Rattle.std.proofs.Common.{◌≡◌, ℕ, ◌+◌, List, [], ◌∷◌, ◌++◌, Ok, Err, Result, Some, None, refl, sym, ap, ◌∙◌, append_assoc, append-nil}
use Rattle.go_text.specs.Steps.{◌>>=◌}
use Rattle.go_text.specs.declared.faults.FaultKind.{FaultKind}
use Rattle.go_word.specs.declared.edge.Edge.{Edge}
use Rattle.go_loader.specs.declared.fault.LoadFault.{LoadFault}
use Rattle.go_loader.specs.declared.fault.LoadFault.TheVariants.{Line}
use Rattle.go_loader.specs.Reading.{Reader, entries_from}

-- entries that were read already stand in front of those that a reading gives
abbrev pub in_front : List Edge → Result (List Edge) LoadFault → Result (List Edge) LoadFault
in_front edges result = result >>= λ more. Ok (edges ++ more)

-- nothing stands in front of nothing
pub in_front-nothing : (result : Result (List Edge) LoadFault) → in_front [] result ≡ result
in_front-nothing (Ok edges) = refl
in_front-nothing (Err fault) = refl

-- an item that reads as nothing
pub item-nothing : (reads : Reader) (n : ℕ) (item : List ℕ) (more : List (List ℕ)) (edges : List Edge) →
    reads item ≡ Ok None → in_front edges (entries_from reads n (item ∷ more)) ≡ in_front edges (entries_from reads (n + 1) more)
item-nothing reads n item more edges nothing = rw nothing (steps (entries_from reads (n + 1) more))
  where
    steps : (rest : Result (List Edge) LoadFault) → in_front edges (rest >>= λ more. Ok more) ≡ in_front edges rest
    steps (Ok rest) = refl
    steps (Err fault) = refl

-- an item that reads as an entry
pub item-entry : (reads : Reader) (n : ℕ) (item : List ℕ) (more : List (List ℕ)) (edges : List Edge) (edge : Edge) →
    reads item ≡ Ok (Some edge) → in_front edges (entries_from reads n (item ∷ more)) ≡ in_front (edges ++ edge ∷ []) (entries_from reads (n + 1) more)
item-entry reads n item more edges edge found = rw found (steps (entries_from reads (n + 1) more))
  where
    steps : (rest : Result (List Edge) LoadFault) → in_front edges (rest >>= λ more. Ok (edge ∷ more)) ≡ in_front (edges ++ edge ∷ []) rest
    steps (Ok rest) = ap Ok (sym (append_assoc edges (edge ∷ []) rest))
    steps (Err fault) = refl

-- an item that reads as a fault
pub item-fault : (reads : Reader) (n : ℕ) (item : List ℕ) (more : List (List ℕ)) (edges : List Edge) (kind : FaultKind) →
    reads item ≡ Err kind → in_front edges (entries_from reads n (item ∷ more)) ≡ Err (Line n kind)
item-fault reads n item more edges kind fault = rw fault refl

-- what was read stands in front of what is read of the rest, which is numbered on from there
pub record HasRead (reads : Reader) (items : List (List ℕ)) (edges : List Edge) (number : ℕ) (rest : List (List ℕ)) : Type 0 where
  pub together : in_front edges (entries_from reads (number + 1) rest) ≡ entries_from reads 1 items

-- nothing was read yet
pub begun : (reads : Reader) (items : List (List ℕ)) → HasRead reads items [] 0 items
begun reads items = record { together = in_front-nothing (entries_from reads 1 items) }

-- all was read
pub ended : (reads : Reader) (items : List (List ℕ)) (edges : List Edge) (number : ℕ) (rest : List (List ℕ)) →
    HasRead reads items edges number rest → rest ≡ [] → entries_from reads 1 items ≡ Ok edges
ended reads items edges number rest read none =
    sym read.together ∙ rw none (ap Ok (append-nil edges))

-- an item that reads as nothing was read
pub read_nothing : (reads : Reader) (items : List (List ℕ)) (edges : List Edge) (number : ℕ) (rest more : List (List ℕ)) (item : List ℕ) →
    HasRead reads items edges number rest → rest ≡ item ∷ more → reads item ≡ Ok None → HasRead reads items edges (number + 1) more
read_nothing reads items edges number rest more item read first nothing = record {
  together = sym (item-nothing reads (number + 1) item more edges nothing)
      ∙ ap (λ (l : List (List ℕ)). in_front edges (entries_from reads (number + 1) l)) (sym first) ∙ read.together;
}

-- an item that reads as an entry was read
pub read_entry : (reads : Reader) (items : List (List ℕ)) (edges : List Edge) (number : ℕ) (rest more : List (List ℕ)) (item : List ℕ) (edge : Edge) →
    HasRead reads items edges number rest → rest ≡ item ∷ more → reads item ≡ Ok (Some edge) → HasRead reads items (edges ++ edge ∷ []) (number + 1) more
read_entry reads items edges number rest more item edge read first found = record {
  together = sym (item-entry reads (number + 1) item more edges edge found)
      ∙ ap (λ (l : List (List ℕ)). in_front edges (entries_from reads (number + 1) l)) (sym first) ∙ read.together;
}

-- an item reads as a fault, which is the first
pub read_fault : (reads : Reader) (items : List (List ℕ)) (edges : List Edge) (number : ℕ) (rest more : List (List ℕ)) (item : List ℕ) (kind : FaultKind) →
    HasRead reads items edges number rest → rest ≡ item ∷ more → reads item ≡ Err kind → entries_from reads 1 items ≡ Err (Line (number + 1) kind)
read_fault reads items edges number rest more item kind read first fault =
    sym read.together ∙ ap (λ (l : List (List ℕ)). in_front edges (entries_from reads (number + 1) l)) first
    ∙ item-fault reads (number + 1) item more edges kind fault
