-- Beginnings of the log: they last while it grows.
use Rattle.std.proofs.Common.{◌≡◌, ℕ, ◌≤◌, List, ◌++◌, length, take, sym, ap, ◌∙◌, arith}
use Rattle.std.specs.Prelude.{min}
use Rattle.std.proofs.lemmas.List.{length-take, length-take-le, take-append-le}
use Rattle.go_word.specs.declared.edge.Edge.{Edge}
use Rattle.go_rule.specs.Rule.{Begins}

-- a beginning is within the log
pub begins_within : (log xs : List Edge) → Begins log xs → length xs ≤ length log
begins_within log xs begins =
    let long : length xs ≡ min (length xs) (length log) = ap length begins ∙ length-take (length xs) log in
    omega arith

-- and is one of a longer log
pub begins_longer : (log more xs : List Edge) → Begins log xs → Begins (log ++ more) xs
begins_longer log more xs begins = begins ∙ sym (take-append-le (length xs) log more (begins_within log xs begins))

-- the first n of a log are a beginning of it
pub begins_take : (n : ℕ) (log : List Edge) → n ≤ length log → Begins log (take n log)
begins_take n log within = ap (λ k. take k log) (sym (length-take-le n log within))
