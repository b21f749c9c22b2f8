-- Laws of the neighbours of a vertex, and how they go on with a log that grows.
use Rattle.std.proofs.Common.{◌≡◌, ℕ, ◌-◌, ◌+◌, true, false, List, [], ◌∷◌, ◌++◌, refl, arith, map, fold}
use Rattle.std.proofs.lemmas.Bool.Decides.{nat_tests}
use Rattle.std.proofs.lemmas.List.Sums.{fold-append, sum_by-cons}
use Rattle.std.proofs.lemmas.List.Elements.{All-head, All-tail}
use Rattle.std.proofs.lemmas.Grind.{common_steps}
use Rattle.std.specs.Prelude.{◌==◌, if◌then◌else◌}
use Rattle.go_word.specs.declared.edge.Edge.{Edge}
use Rattle.go_word.specs.Log.{entries_from, IsOfAdditions}
use Rattle.go_word.specs.Neighbours.{neighbours, after_entry, without_first, copies}

-- the neighbours after a longer log go on from those after the log
pub neighbours-append : (log more : List Edge) (s : ℕ) → neighbours (log ++ more) s ≡ fold (after_entry s) (neighbours log s) more
neighbours-append log more s = fold-append (after_entry s) [] log more

-- one more entry at the end of a log does what `after_entry` says
pub neighbours-push : (log : List Edge) (e : Edge) (s : ℕ) → neighbours (log ++ e ∷ []) s ≡ after_entry s (neighbours log s) e
neighbours-push log e s = fold-append (after_entry s) [] log (e ∷ [])

-- from any list of neighbours on, a vertex's own entries do what the whole log does
pub after_entry-entries_from : (s : ℕ) (before : List ℕ) (log : List Edge) → fold (after_entry s) before (entries_from s log) ≡ fold (after_entry s) before log
after_entry-entries_from s before [] = refl
after_entry-entries_from s before (e ∷ log) = grind (arith, nat_tests, after_entry-entries_from s (after_entry s before e) log)

-- only a vertex's own entries count
pub neighbours-entries_from : (log : List Edge) (s : ℕ) → neighbours (entries_from s log) s ≡ neighbours log s
neighbours-entries_from log s = after_entry-entries_from s [] log

-- from any list of neighbours on, additions come behind it in their order
pub after_entry-additions : (s : ℕ) (before : List ℕ) (log : List Edge) → IsOfAdditions log →
    fold (after_entry s) before log ≡ before ++ map (λ e. e.dst) (entries_from s log)
after_entry-additions s before [] adds = grind (arith, common_steps)
after_entry-additions s before (e ∷ log) adds =
    let adds_first : e.del ≡ false = All-head (λ e. e.del ≡ false) e log adds in
    let adds_rest : IsOfAdditions log = All-tail (λ e. e.del ≡ false) e log adds in
    grind (arith, common_steps, nat_tests, after_entry-additions s (after_entry s before e) log adds_rest)

-- additions alone are listed in their order
pub neighbours-additions : (log : List Edge) (s : ℕ) → IsOfAdditions log → neighbours log s ≡ map (λ e. e.dst) (entries_from s log)
neighbours-additions log s adds = after_entry-additions s [] log adds

-- the count of copies goes element by element
copies-cons : (x y : ℕ) (ys : List ℕ) → copies x (y ∷ ys) ≡ (if y == x then 1 else 0) + copies x ys
copies-cons x y ys = sum_by-cons (λ v. if v == x then 1 else 0) y ys

-- a list less its earliest d has one copy of d less, where it has one, and as many of each other vertex
pub copies-without_first : (x d : ℕ) (ys : List ℕ) → copies x (without_first d ys) ≡ copies x ys - (if x == d then 1 else 0)
copies-without_first x d [] = grind (arith, nat_tests)
copies-without_first x d (y ∷ ys) = grind (arith, nat_tests, copies-cons x y ys, copies-cons x y (without_first d ys), copies-without_first x d ys)

-- the copy that goes is the earliest
pub without_first-earliest : (d : ℕ) (before after : List ℕ) → copies d before ≡ 0 → without_first d (before ++ d ∷ after) ≡ before ++ after
without_first-earliest d [] after none = grind (arith, nat_tests)
without_first-earliest d (y ∷ before) after none =
    let count : copies d (y ∷ before) ≡ (if y == d then 1 else 0) + copies d before = copies-cons d y before in
    let rest : copies d before ≡ 0 = omega arith in
    grind (arith, nat_tests, without_first-earliest d before after rest)

-- where d isn't in the list, nothing goes
pub without_first-absent : (d : ℕ) (ys : List ℕ) → copies d ys ≡ 0 → without_first d ys ≡ ys
without_first-absent d [] none = refl
without_first-absent d (y ∷ ys) none =
    let count : copies d (y ∷ ys) ≡ (if y == d then 1 else 0) + copies d ys = copies-cons d y ys in
    let rest : copies d ys ≡ 0 = omega arith in
    grind (arith, nat_tests, without_first-absent d ys rest)

-- a deletion at the end of a log takes the earliest copy of its destination
pub neighbours-deletion : (log : List Edge) (e : Edge) → e.del ≡ true → neighbours (log ++ e ∷ []) e.src ≡ without_first e.dst (neighbours log e.src)
neighbours-deletion log e deletes = let push : neighbours (log ++ e ∷ []) e.src ≡ after_entry e.src (neighbours log e.src) e =
    neighbours-push log e e.src in grind (arith, nat_tests)
