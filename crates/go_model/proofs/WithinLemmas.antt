-- Where the vertices of a log are below a number, so are the neighbours of each, and what walks reach.
use Rattle.std.proofs.Common.{◌≡◌, ℕ, zero, suc, ◌<◌, true, false, List, [], ◌∷◌, ◌++◌, fold, subst}
use Rattle.std.proofs.lemmas.List.Elements.{All-head, All-tail, All-nil, All-cons, All-push, All-contains}
use Rattle.std.specs.Prelude.{All, ◌==◌, if◌then◌else◌}
use Rattle.go_word.specs.declared.edge.Edge.{Edge}
use Rattle.go_word.specs.Log.{IsWithin, leaves}
use Rattle.go_word.specs.Neighbours.{neighbours, after_entry, without_first}
use Rattle.go_model.specs.Levels.{Leads, Walk}

-- what holds of each one holds still where the earliest d is taken out
All-without_first : (P : ℕ → Type 0) (d : ℕ) (xs : List ℕ) → All P xs → All P (without_first d xs)
All-without_first P d [] all = all
All-without_first P d (x ∷ xs) all =
    elim (x == d) as (λ b. All P (if b then xs else x ∷ without_first d xs)) [
      | true ↦ All-tail P x xs all
      | false ↦ All-cons P x (without_first d xs) (All-head P x xs all) (All-without_first P d xs (All-tail P x xs all))
    ]

-- an entry whose vertices are below a number keeps that of the neighbours
below-after_entry : (size s : ℕ) (before : List ℕ) (e : Edge) → IsWithin size e → All (λ x. x < size) before → All (λ x. x < size) (after_entry s before e)
below-after_entry size s before e within all =
    elim (leaves s e) as (λ b. All (λ x. x < size) (if b then (if e.del then without_first e.dst before else before ++ e.dst ∷ []) else before)) [
      | true ↦ elim (e.del) as (λ b. All (λ x. x < size) (if b then without_first e.dst before else before ++ e.dst ∷ [])) [
        | true ↦ All-without_first (λ x. x < size) e.dst before all
        | false ↦ All-push (λ x. x < size) before e.dst all within.destination
      ]
      | false ↦ all
    ]

-- and so do the entries of a log
below-fold : (size s : ℕ) (before : List ℕ) (log : List Edge) → All (IsWithin size) log → All (λ x. x < size) before →
    All (λ x. x < size) (fold (after_entry s) before log)
below-fold size s before [] ids all = all
below-fold size s before (e ∷ log) ids all = below-fold size s (after_entry s before e) log (All-tail (IsWithin size) e log ids)
    (below-after_entry size s before e (All-head (IsWithin size) e log ids) all)

-- the neighbours are below the number of vertices
pub neighbours-below : (size : ℕ) (log : List Edge) (s : ℕ) → All (IsWithin size) log → All (λ x. x < size) (neighbours log s)
neighbours-below size log s ids = below-fold size s [] log ids (All-nil (λ x. x < size))

-- so is what an edge leads to
pub Leads-below : (size : ℕ) (log : List Edge) (a b : ℕ) → All (IsWithin size) log → Leads log a b → b < size
Leads-below size log a b ids leads = All-contains (λ x. x < size) (neighbours log a) b (neighbours-below size log a ids) leads

-- and what a walk from a vertex leads to
pub Walk-below : (size : ℕ) (log : List Edge) (a b n : ℕ) → All (IsWithin size) log → a < size → Walk log a b n → b < size
Walk-below size log a b zero ids within walk = let same : a ≡ b = walk in subst (λ (v : ℕ). v < size) same within
Walk-below size log a b (suc n) ids within walk = Leads-below size log walk.0 b ids walk.2
