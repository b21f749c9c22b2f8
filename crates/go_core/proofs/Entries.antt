-- How often a position stands in a list of entries: after a claim, a store and a merge; and that own entries stay in order.
use Rattle.std.proofs.Common.{add-zero, take-append-drop, ◌≡◌, ℕ, zero, suc, ◌+◌, ◌-◌, ◌<◌, ◌≤◌, ◌≢◌, Bool, true, false, cond, List, [], ◌∷◌, ◌++◌, length}
use Rattle.std.proofs.Common.{get_or, take, drop, sym, refl, ap, ◌∙◌, ⊎_elim, arith, subst}
use Rattle.std.specs.Prelude.{All, Contains}
use Rattle.std.proofs.lemmas.Bool.{cases_Bool, cases_eq}
use Rattle.std.proofs.Math.Nat.{eq-or-lt_of_le}
use Rattle.std.proofs.lemmas.Bool.Decides.{nat_tests}
use Rattle.std.proofs.lemmas.List.Sums.{sum_by-cons, sum_by-append}
use Rattle.std.proofs.lemmas.List.Elements.{All-nil, All-cons, All-head, All-tail, All-append, All-take, All-drop}
use mathlib.Core.Option.{some}
use lib.ListN.{get_elem?}
use Rattle.go_word.specs.declared.edge.Edge.{Edge}
use Rattle.go_core.specs.declared.entry.Entry.{Entry}
use Rattle.go_core.specs.View.{stands_at, count_at, numbered, without, inserted, before_later}
use Rattle.go_core.specs.Rule.{IsOf}
use Rattle.go_core.proofs.Lookups.{lookup-after}
use Rattle.go_core.proofs.Totals.{bit_of}

-- an entry at the position counts once, another doesn't
pub count_at-cons : (p : ℕ) (x : Entry) (xs : List Entry) → count_at p (x ∷ xs) ≡ bit_of (stands_at p x) + count_at p xs
count_at-cons p x xs = sum_by-cons (λ y. cond (stands_at p y) 1 0) x xs

pub count_at-append : (p : ℕ) (xs ys : List Entry) → count_at p (xs ++ ys) ≡ count_at p xs + count_at p ys
count_at-append p xs ys = sum_by-append (λ y. cond (stands_at p y) 1 0) xs ys

pub bit-here : (p : ℕ) (x : Entry) → x.at ≡ p → bit_of (stands_at p x) ≡ 1
bit-here p x e = grind (arith, nat_tests)

pub bit-other : (p : ℕ) (x : Entry) → x.at ≢ p → bit_of (stands_at p x) ≡ 0
bit-other p x ne = grind (arith, nat_tests)

-- claimed entries: one at each position from p on, as many as there are
pub count_at-numbered_before : (q p : ℕ) (es : List Edge) → q < p → count_at q (numbered p es) ≡ 0
count_at-numbered_before q p [] before = refl
count_at-numbered_before q p (e ∷ es) before =
    let x : Entry = record { at = p; edge = e } in
    let ne : x.at ≢ q = λ same. omega arith in
    omega (arith, count_at-cons q x (numbered (p + 1) es), bit-other q x ne, count_at-numbered_before q (p + 1) es (omega arith))

pub count_at-numbered_after : (q p : ℕ) (es : List Edge) → p + length es ≤ q → count_at q (numbered p es) ≡ 0
count_at-numbered_after q p [] after = refl
count_at-numbered_after q p (e ∷ es) after =
    let x : Entry = record { at = p; edge = e } in
    let ne : x.at ≢ q = λ same. omega arith in
    omega (arith, count_at-cons q x (numbered (p + 1) es), bit-other q x ne, count_at-numbered_after q (p + 1) es (omega arith))

pub count_at-numbered_within : (q p : ℕ) (es : List Edge) → p ≤ q → q < p + length es → count_at q (numbered p es) ≡ 1
count_at-numbered_within q p [] from to = absurd (omega arith)
count_at-numbered_within q p (e ∷ es) from to =
    let x : Entry = record { at = p; edge = e } in
    ⊎_elim
    (λ (here : p ≡ q).
    omega (arith, count_at-cons q x (numbered (p + 1) es), bit-here q x here, count_at-numbered_before q (p + 1) es (omega arith)))
    (λ (later : p < q).
    let ne : x.at ≢ q = λ same. omega arith in
    omega (arith, count_at-cons q x (numbered (p + 1) es), bit-other q x ne, count_at-numbered_within q (p + 1) es (omega arith) (omega arith)))
    (eq-or-lt_of_le from)

-- they are the log's that follow it
of-numbered : (log : List Edge) (p : ℕ) (es : List Edge) → ((k : ℕ) (e : Edge) → get_elem? es k ≡ some e → get_elem? log (p + k) ≡ some e)
    → All (IsOf log) (numbered p es)
of-numbered log p [] tell = All-nil (IsOf log)
of-numbered log p (e ∷ es) tell =
    let x : Entry = record { at = p; edge = e } in
    let first : get_elem? log p ≡ some e = ap (get_elem? log) (sym (add-zero p)) ∙ tell 0 e refl in
    All-cons (IsOf log) x (numbered (p + 1) es) first
    (of-numbered log (p + 1) es (λ k a there. let step : p + 1 + k ≡ p + suc k = omega arith in ap (get_elem? log) step ∙ tell (suc k) a there))

pub IsOf-numbered : (log es : List Edge) → All (IsOf (log ++ es)) (numbered (length log) es)
IsOf-numbered log es = of-numbered (log ++ es) (length log) es (λ k e there. lookup-after log es k ∙ there)

-- what a list less an entry keeps of its first, by whether that is the one
abbrev kept : Bool → Entry → List Entry → List Entry → List Entry
kept b x xs rest = cond b xs (x ∷ rest)

-- less the first entry at a position, it stands there once less
pub count_at-without_here : (p : ℕ) (xs : List Entry) → count_at p (without p xs) ≡ count_at p xs - 1
count_at-without_here p [] = refl
count_at-without_here p (x ∷ xs) =
    let rest : count_at p (without p xs) ≡ count_at p xs - 1 = count_at-without_here p xs in
    let whole : count_at p (x ∷ xs) ≡ bit_of (stands_at p x) + count_at p xs = count_at-cons p x xs in
    ⊎_elim
    (λ (here : stands_at p x ≡ true).
    let one : bit_of (stands_at p x) ≡ 1 = ap (λ b. cond b 1 0) here in
    ap (λ b. count_at p (kept b x xs (without p xs))) here ∙ omega arith)
    (λ (other : stands_at p x ≡ false).
    let none : bit_of (stands_at p x) ≡ 0 = ap (λ b. cond b 1 0) other in
    let more : count_at p (x ∷ without p xs) ≡ bit_of (stands_at p x) + count_at p (without p xs) = count_at-cons p x (without p xs) in
    ap (λ b. count_at p (kept b x xs (without p xs))) other ∙ omega arith)
    (cases_Bool (stands_at p x))

-- and each other one as often as before
pub count_at-without_other : (q p : ℕ) (xs : List Entry) → q ≢ p → count_at q (without p xs) ≡ count_at q xs
count_at-without_other q p [] ne = refl
count_at-without_other q p (x ∷ xs) ne =
    let rest : count_at q (without p xs) ≡ count_at q xs = count_at-without_other q p xs ne in
    let whole : count_at q (x ∷ xs) ≡ bit_of (stands_at q x) + count_at q xs = count_at-cons q x xs in
    ⊎_elim
    (λ (here : stands_at p x ≡ true).
    let same : x.at ≡ p = grind (arith, nat_tests) in
    let none : bit_of (stands_at q x) ≡ 0 = bit-other q x (λ e. ne (sym e ∙ same)) in
    ap (λ b. count_at q (kept b x xs (without p xs))) here ∙ omega arith)
    (λ (other : stands_at p x ≡ false).
    let more : count_at q (x ∷ without p xs) ≡ bit_of (stands_at q x) + count_at q (without p xs) = count_at-cons q x (without p xs) in
    ap (λ b. count_at q (kept b x xs (without p xs))) other ∙ omega arith)
    (cases_Bool (stands_at p x))

-- so no position stands more often than before
pub count_at-without_le : (q p : ℕ) (xs : List Entry) → count_at q (without p xs) ≤ count_at q xs
count_at-without_le q p xs =
    ⊎_elim
    (λ (here : q ≡ p).
    let gone : count_at q (without p xs) ≡ count_at q xs - 1 = ap (λ k. count_at k (without p xs)) here ∙ count_at-without_here p xs
    ∙ ap (λ k. count_at k xs - 1) (sym here) in
    omega arith)
    (λ (other : q ≢ p). let same : count_at q (without p xs) ≡ count_at q xs = count_at-without_other q p xs other in omega arith) (cases_eq q p)

-- what is left has what all had
pub All-without : (P : Entry → Type 0) (p : ℕ) (xs : List Entry) → All P xs → All P (without p xs)
All-without P p [] all = all
All-without P p (x ∷ xs) all =
    let rest = All-without P p xs (All-tail P x xs all) in
    ⊎_elim
    (λ (here : stands_at p x ≡ true). subst (λ b. All P (kept b x xs (without p xs))) (sym here) (All-tail P x xs all))
    (λ (other : stands_at p x ≡ false). subst (λ b. All P (kept b x xs (without p xs))) (sym other) (All-cons P x (without p xs) (All-head P x xs all) rest))
    (cases_Bool (stands_at p x))

-- an entry of a list stands in it
pub count_at-Contains : (xs : List Entry) (x : Entry) → Contains xs x → 0 < count_at x.at xs
count_at-Contains xs x contained = within xs x contained.0 contained.1 contained.2
  where
    within : (xs : List Entry) (x : Entry) (k : ℕ) → k < length xs → get_or xs k x ≡ x → 0 < count_at x.at xs
    within [] x k small is = absurd (omega arith)
    within (y ∷ ys) x zero small is =
        let here : bit_of (stands_at x.at y) ≡ 1 = bit-here x.at y (ap (λ z. z.at) is) in
        omega (arith, count_at-cons x.at y ys)
    within (y ∷ ys) x (suc k) small is =
        let rest : 0 < count_at x.at ys = within ys x k (omega arith) is in
        omega (arith, count_at-cons x.at y ys)

-- an entry inserted counts once more, and the others stay
pub count_at-inserted : (q : ℕ) (x : Entry) (xs : List Entry) → count_at q (inserted x xs) ≡ bit_of (stands_at q x) + count_at q xs
count_at-inserted q x xs =
    let k = before_later x.at xs in
    let parts : count_at q (take k xs ++ x ∷ drop k xs) ≡ count_at q (take k xs) + count_at q (x ∷ drop k xs) = count_at-append q (take k xs) (x ∷ drop k xs) in
    let one : count_at q (x ∷ drop k xs) ≡ bit_of (stands_at q x) + count_at q (drop k xs) = count_at-cons q x (drop k xs) in
    let whole : count_at q xs ≡ count_at q (take k xs) + count_at q (drop k xs) = ap (count_at q) (sym (take-append-drop k xs))
    ∙ count_at-append q (take k xs) (drop k xs) in
    omega arith

-- and has what all have
pub All-inserted : (P : Entry → Type 0) (x : Entry) (xs : List Entry) → P x → All P xs → All P (inserted x xs)
All-inserted P x xs here all =
    let k = before_later x.at xs in
    All-append P (take k xs) (x ∷ drop k xs) (All-take P k xs all) (All-cons P x (drop k xs) here (All-drop P k xs all))
