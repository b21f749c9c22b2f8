-- Which entries of a log each session put.
use Rattle.std.specs.Prelude.{◌≡◌, ◌==◌, ℕ, ◌+◌, ◌-◌, ◌≤◌, if◌then◌else◌, List, [], ◌∷◌, length, drop, map, All}
use Rattle.go_word.specs.declared.edge.Edge.{Edge}
use Rattle.go_api.specs.Alone.{positions}

-- the positions of the entries that one session put, the first of all having this position: the owner of each is given by its number
abbrev pub owned : ℕ → ℕ → List ℕ → List ℕ
owned first number [] = []
owned first number (owner ∷ owners) = if owner == number then first ∷ owned (first + 1) number owners else owned (first + 1) number owners

-- the entries that one session put
abbrev pub put_by : ℕ → List ℕ → List Edge → List Edge
put_by number [] entries = []
put_by number (owner ∷ owners) [] = []
put_by number (owner ∷ owners) (e ∷ entries) = if owner == number then e ∷ put_by number owners entries else put_by number owners entries

-- the positions of each of so many sessions, and the entries of each
abbrev pub owns_of : ℕ → ℕ → List ℕ → List (List ℕ)
owns_of count first owners = map (λ number. owned first number owners) (positions 1 count)

abbrev pub puts_of : ℕ → List ℕ → List Edge → List (List Edge)
puts_of count owners entries = map (λ number. put_by number owners entries) (positions 1 count)

-- an owner is one of so many sessions
pub record IsSession (count number : ℕ) : Type 0 where
  pub from : 1 ≤ number
  pub to : number ≤ count

-- each entry of a log behind the first ones has an owner, one of so many sessions
pub record HasOwners (count first : ℕ) (log : List Edge) (owners : List ℕ) : Type 0 where
  pub each : first + length owners ≡ length log
  pub sessions : All (IsSession count) owners
