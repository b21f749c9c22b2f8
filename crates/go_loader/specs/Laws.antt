-- What it means that entries are those of items, and that an item has the first fault.
use Rattle.std.specs.Prelude.{◌≡◌, ℕ, ◌+◌, ◌<◌, ◌∷◌, List, [], Option, Some, None, Result, Ok, Err, slice_get}
use Rattle.std.specs.List.{flat_map}
use Rattle.go_text.specs.declared.faults.FaultKind.{FaultKind}
use Rattle.go_word.specs.declared.edge.Edge.{Edge}
use Rattle.go_loader.specs.Reading.{Reader}

-- the entry that an item has, where it has one
abbrev pub found_in : Result (Option Edge) FaultKind → List Edge
found_in (Ok (Some edge)) = edge ∷ []
found_in (Ok None) = []
found_in (Err kind) = []

-- an item has no fault
abbrev pub IsRight : Reader → List ℕ → Type 0
IsRight reads item = (kind : FaultKind) → reads item ≡ Err kind → ⊥

-- no item has a fault, and the entries are those that items have, in their order
pub record AreEntriesOf (reads : Reader) (items : List (List ℕ)) (edges : List Edge) : Type 0 where
  pub right : (k : ℕ) (item : List ℕ) → slice_get items k ≡ Some item → IsRight reads item
  pub entries : edges ≡ flat_map (λ item. found_in (reads item)) items

-- item m, counted from n, has this fault, and no item before it has one
pub record HasFirstFault (reads : Reader) (n : ℕ) (items : List (List ℕ)) (m : ℕ) (kind : FaultKind) : Type 0 where
  pub place : ℕ
  pub item : List ℕ
  pub counted : m ≡ n + place
  pub there : slice_get items place ≡ Some item
  pub fault : reads item ≡ Err kind
  pub before : (k : ℕ) (earlier : List ℕ) → k < place → slice_get items k ≡ Some earlier → IsRight reads earlier
