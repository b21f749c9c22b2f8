-- Rows of numbers side by side.
use Rattle.std.specs.Prelude.{◌≡◌, ℕ, zero, suc, ◌-◌, ◌<◌, ◌≤◌, List, [], ◌∷◌, length, take, drop, get_or}

-- the rows that lie in a list of targets, by where each one ends; the first one begins here
abbrev pub rows_from : ℕ → List ℕ → List ℕ → List (List ℕ)
rows_from start [] targets = []
rows_from start (end ∷ ends) targets = take (end - start) (drop start targets) ∷ rows_from end ends targets

-- where a row begins: where the one before it ends
abbrev pub start_of : ℕ → List ℕ → ℕ → ℕ
start_of start ends zero = start
start_of start ends (suc n) = get_or ends n 0

-- no row ends before it begins, and the last one ends where the targets do, of which there are so many
abbrev pub AreEnds : ℕ → List ℕ → ℕ → Type 0
AreEnds start [] count = start ≡ count
AreEnds start (end ∷ ends) count = (start ≤ end) × AreEnds end ends count

-- a list is the row with this number; they count from 0
pub record IsRow (rows : List (List ℕ)) (number : ℕ) (row : List ℕ) : Type 0 where
  pub there : number < length rows
  pub is : row ≡ get_or rows number []
