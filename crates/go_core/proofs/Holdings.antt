-- How many entries one view has that has all of the log's from the first position on.
use Rattle.std.proofs.Common.{◌≡◌, ℕ, zero, suc, ◌+◌, ◌-◌, ◌<◌, ◌≤◌, ◌≢◌, true, false, cond, List, [], ◌∷◌, ◌++◌, length, sym, refl, ap, ◌∙◌, ⊎_elim, arith}
use Rattle.std.specs.Prelude.{sum_by}
use Rattle.std.proofs.lemmas.Bool.{cases_Bool, cases_eq, cases_lt}
use Rattle.std.proofs.lemmas.List.{length-append}
use Rattle.std.proofs.lemmas.List.Sums.{sum_by-cons}
use Rattle.go_word.specs.declared.edge.Edge.{Edge}
use Rattle.go_core.specs.declared.entry.Entry.{Entry}
use Rattle.go_core.specs.declared.view.View.{View}
use Rattle.go_core.specs.Frame.{Frame}
use Rattle.go_core.specs.View.{stands_at, count_at, stands, without}
use Rattle.go_core.specs.Rule.{TiedBy}
use Rattle.go_core.proofs.Totals.{bit_of}
use Rattle.go_core.proofs.Entries.{count_at-cons, count_at-append, count_at-without_here, count_at-without_other, bit-here}

-- the lists of a list, one after another
abbrev pub flat : List (List Entry) → List Entry
flat [] = []
flat (xs ∷ lists) = xs ++ flat lists

count_at-flat : (p : ℕ) (lists : List (List Entry)) → count_at p (flat lists) ≡ sum_by (count_at p) lists
count_at-flat p [] = refl
count_at-flat p (xs ∷ lists) =
    let rest = count_at-flat p lists in
    omega (arith, count_at-append p xs (flat lists), sum_by-cons (count_at p) xs lists)

length-flat : (lists : List (List Entry)) → length (flat lists) ≡ sum_by (λ (xs : List Entry). length xs) lists
length-flat [] = refl
length-flat (xs ∷ lists) =
    let rest = length-flat lists in
    omega (arith, length-append xs (flat lists), sum_by-cons (λ (zs : List Entry). length zs) xs lists)

-- all entries that a view has
abbrev pub all_of : View → List Entry
all_of v = v.pending ++ (v.abandoned ++ (v.own ++ flat v.joined))

count_at-all_of : (p : ℕ) (v : View) → count_at p (all_of v) ≡ stands p v
count_at-all_of p v =
    omega (
      arith,
      count_at-append p v.pending (v.abandoned ++ (v.own ++ flat v.joined)),
      count_at-append p v.abandoned
          (v.own ++ flat v.joined),
      count_at-append p v.own (flat v.joined),
      count_at-flat p v.joined,
    )

-- a list less an entry that stands in it is one shorter
length-without : (p : ℕ) (xs : List Entry) → 0 < count_at p xs → length (without p xs) + 1 ≡ length xs
length-without p [] some' = absurd (omega arith)
length-without p (x ∷ xs) some' =
    ⊎_elim (λ (here : stands_at p x ≡ true). ap (λ b. length (cond b xs (x ∷ without p xs)) + 1) here ∙ omega arith)
    (λ (other : stands_at p x ≡ false).
    let none : bit_of (stands_at p x) ≡ 0 = ap bit_of other in
    let rest = length-without p xs (omega (arith, count_at-cons p x xs)) in
    ap (λ b. length (cond b xs (x ∷ without p xs)) + 1) other ∙ omega arith)
    (cases_Bool (stands_at p x))

-- a list in which each position of a stretch stands once, and no other, is as long as the stretch
pub stretch_length : (first k : ℕ) (xs : List Entry) → ((p : ℕ) → first ≤ p → p < first + k → count_at p xs ≡ 1) → ((p : ℕ) → p < first → count_at p xs ≡ 0)
    → ((p : ℕ) → first + k ≤ p → count_at p xs ≡ 0) → length xs ≡ k
stretch_length first zero [] once before after = refl
stretch_length first zero (x ∷ xs) once before after =
    let one : bit_of (stands_at x.at x) ≡ 1 = bit-here x.at x refl in
    let none : count_at x.at (x ∷ xs) ≡ 0 = ⊎_elim (λ less. before x.at less) (λ (over : first ≤ x.at). after x.at (omega arith)) (cases_lt x.at first) in
    absurd (omega (arith, count_at-cons x.at x xs))
stretch_length first (suc k) xs once before after =
    let last : ℕ = first + k in
    let here : count_at last xs ≡ 1 = once last (omega arith) (omega arith) in
    let short = length-without last xs (omega arith) in
    let other : (p : ℕ) → p ≢ last → count_at p (without last xs) ≡ count_at p xs = λ p ne. count_at-without_other p last xs ne in
    let rest : length (without last xs) ≡ k =
    stretch_length first k (without last xs) (λ p from to. other p (λ e. omega arith) ∙ once p from (omega arith))
    (λ p less. other p (λ e. omega arith) ∙ before p less)
    (λ p from.
    ⊎_elim
    (λ (is : p ≡ last). ap (λ q. count_at q (without last xs)) is ∙ count_at-without_here last xs ∙ omega arith)
    (λ (ne : p ≢ last). other p ne ∙ after p (omega arith)) (cases_eq p last))
    in
    omega arith

-- a view in which each position stands as often as in all has as many entries as there are from the first position on
pub held_all : (f : Frame) (log : List Edge) (words : List ℕ) (views : List View) (v : View) → f.first ≤ length log
    → ((p : ℕ) → sum_by (stands p) views ≡ stands p v)
    → TiedBy f log words views
    → length log ≡ f.first + (length v.pending + length v.abandoned + length v.own + sum_by (λ (xs : List Entry). length xs) v.joined)
held_all f log words views v from all tied =
    let k : ℕ = length log - f.first in
    let same : (p : ℕ) → count_at p (all_of v) ≡ sum_by (stands p) views = λ p. count_at-all_of p v ∙ sym (all p) in
    let long : length (all_of v) ≡ k =
    stretch_length f.first k (all_of v) (λ p low high. same p ∙ tied.stand.once p low (omega arith)) (λ p less. same p ∙ tied.stand.before p less)
    (λ p over. same p ∙ tied.stand.after p (omega arith))
    in
    omega (
      arith,
      length-append v.pending (v.abandoned ++ (v.own ++ flat v.joined)),
      length-append v.abandoned (v.own ++ flat v.joined),
      length-append v.own
          (flat v.joined),
      length-flat v.joined,
    )
