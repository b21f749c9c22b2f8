-- How the first copies of a vertex are counted off; no public contract speaks of it.
use Rattle.std.specs.Prelude.{◌≡◌, ◌==◌, ℕ, ◌+◌, ◌-◌, ◌≤◌, ◌<◌, if◌then◌else◌, List, [], ◌∷◌, All, Contains, slice_index, length, true}
use Rattle.std.specs.List.{flat_map}
use Rattle.go_word.specs.Word.{decode}
use Rattle.go_word.specs.Neighbours.{copies}

-- the count that stands where d stands among the targets, and 0 where it isn't among them
abbrev pub count_at : List ℕ → List ℕ → ℕ → ℕ
count_at [] counts d = 0
count_at (target ∷ targets) [] d = 0
count_at (target ∷ targets) (count ∷ counts) d = if target == d then count else count_at targets counts d

-- some counts, with that of d one less
abbrev pub one_less : (ℕ → ℕ) → ℕ → ℕ → ℕ
one_less counts d x = if x == d then counts x - 1 else counts x

-- some counts, with that of d one more
abbrev pub one_more : (ℕ → ℕ) → ℕ → ℕ → ℕ
one_more counts d x = if x == d then counts x + 1 else counts x

-- a list less the first copies of each vertex, as many of them as its count
abbrev pub without_counted : (ℕ → ℕ) → List ℕ → List ℕ
without_counted counts [] = []
without_counted counts (x ∷ xs) = if counts x == 0 then x ∷ without_counted counts xs else without_counted (one_less counts x) xs

-- the neighbour that a word adds, alone; none where it deletes
abbrev pub addition_in : ℕ → List ℕ
addition_in word = if (decode word).del then [] else (decode word).dst ∷ []

-- the neighbours that some words add, in their order
abbrev pub additions : List ℕ → List ℕ
additions words = flat_map addition_in words

-- each deletion among some words has its destination among the targets
abbrev pub HasTargetsOf : List ℕ → List ℕ → Type 0
HasTargetsOf targets words = All (λ word. (decode word).del ≡ true → Contains targets (decode word).dst) words

-- d stands at this place among the targets and nowhere before it
pub record StandsAt (targets : List ℕ) (d place : ℕ) : Type 0 where
  pub within : place < length targets
  pub here : slice_index targets place ≡ d
  pub first : (k : ℕ) → k < place → slice_index targets k < d

-- two lists of counts tell how the list came from all that was added: the first has the copies of each target in the list, the second how many were taken out
pub record IsTally (targets present removed added list : List ℕ) : Type 0 where
  pub taken : without_counted (count_at targets removed) added ≡ list
  pub standing : (x : ℕ) → Contains targets x → count_at targets present x ≡ copies x list
  pub bound : (x : ℕ) → count_at targets present x + count_at targets removed x ≤ copies x added
