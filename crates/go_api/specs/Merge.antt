-- An interleaving of lists, each in its own order.
use Rattle.std.specs.Prelude.{◌≡◌, ◌⊎◌, List, [], ◌∷◌}
use Rattle.std.specs.List.{AllByRecursion}
use Rattle.go_word.specs.declared.edge.Edge.{Edge}

-- an entry is the first one of one of the lists, and without it they are those that are left
abbrev pub TakesFirst : Edge → List (List Edge) → List (List Edge) → Type 0
TakesFirst e [] left = ⊥
TakesFirst e (puts ∷ more) left = ((rest : List Edge) × (puts ≡ e ∷ rest) × (left ≡ rest ∷ more))
    ⊎ ((others : List (List Edge)) × TakesFirst e more others × (left ≡ puts ∷ others))

-- a list has all entries of these lists and no other: each one in turn is the first that one of them has left
abbrev pub IsMerge : List (List Edge) → List Edge → Type 0
IsMerge lists [] = AllByRecursion (λ puts. puts ≡ []) lists
IsMerge lists (e ∷ log) = (left : List (List Edge)) × TakesFirst e lists left × IsMerge left log
