-- The neighbours of a vertex after a log.
use Rattle.std.specs.Prelude.{ℕ, ◌==◌, if◌then◌else◌, List, [], ◌∷◌, ◌++◌, fold, count_by}
use Rattle.go_word.specs.declared.edge.Edge.{Edge}
use Rattle.go_word.specs.Log.{leaves}

-- the list less the earliest d in it, where there is one
abbrev pub without_first : ℕ → List ℕ → List ℕ
without_first d [] = []
without_first d (x ∷ xs) = if x == d then xs else x ∷ without_first d xs

-- what an entry makes of the neighbours of s: an addition comes last, a deletion takes the earliest copy, and an entry of another vertex changes nothing
abbrev pub after_entry : ℕ → List ℕ → Edge → List ℕ
after_entry s before e = if leaves s e then (if e.del then without_first e.dst before else before ++ e.dst ∷ []) else before

-- the neighbours of s after the entries of a log, one by one
abbrev pub neighbours : List Edge → ℕ → List ℕ
neighbours log s = fold (after_entry s) [] log

-- how often a vertex stands in a list
abbrev pub copies : ℕ → List ℕ → ℕ
copies x xs = count_by (λ v. v == x) xs
