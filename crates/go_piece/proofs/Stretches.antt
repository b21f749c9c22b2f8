-- Stretches of a log, and of a beginning of it that was seen.
use Rattle.std.proofs.Common.{◌≡◌, ℕ, zero, suc, ◌+◌, ◌-◌, ◌≤◌, List, ◌++◌, length, take, drop, refl, sym, ap, ◌∙◌, arith}
use Rattle.std.specs.Prelude.{min}
use Rattle.std.proofs.Math.Seq.{take-add}
use Rattle.std.proofs.lemmas.List.{length-take, length-drop, take-take, drop-take}
use Rattle.go_word.specs.declared.edge.Edge.{Edge}
use Rattle.go_rule.specs.Rule.{Begins}
use Rattle.go_piece.specs.Meanings.{stretch}

-- a beginning of what was seen is that of the log
pub seen_begins : (front : ℕ) (log seen : List Edge) → Begins log seen → front ≤ length seen → take front seen ≡ take front log
seen_begins front log seen begins within = ap (take front) begins ∙ take-take front (length seen) log within

-- so many entries that were seen are those of the log
pub seen_next : (at n : ℕ) (log seen : List Edge) → Begins log seen → at + n ≤ length seen → take n (drop at seen) ≡ take n (drop at log)
seen_next at n log seen begins within =
    let rest = length seen - at in
    let long : length seen ≡ at + rest = omega arith in
    ap (λ l. take n (drop at l)) begins
    ∙ ap (λ k. take n (drop at (take k log))) long
    ∙ ap (take n) (drop-take at rest log)
    ∙ take-take n rest (drop at log) (omega arith)

-- a beginning of the log and the stretch behind it, where that has as many entries as it is to have, are a longer beginning
pub stretched : (from upto : ℕ) (log seen : List Edge) → Begins log seen → from + length (stretch from upto seen) ≡ upto
    → take from log ++ stretch from upto seen ≡ take upto log
stretched from upto log seen begins reach =
    let n = upto - from in
    let rest = length seen - from in
    let long : length (stretch from upto seen) ≡ min n (length (drop from seen)) = length-take n (drop from seen) in
    let left : length (drop from seen) ≡ rest = length-drop from seen in
    let within : n ≤ rest = omega arith in
    let up : from + n ≡ upto = omega arith in
    ap (λ l. take from log ++ l) (some n within) ∙ sym (take-add from n log) ∙ ap (λ k. take k log) up
  where
    some : (n : ℕ) → n ≤ length seen - from → take n (drop from seen) ≡ take n (drop from log)
    some zero within = refl
    some (suc n) within = seen_next from (suc n) log seen begins (omega arith)
