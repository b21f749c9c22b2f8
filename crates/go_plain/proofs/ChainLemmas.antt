-- Lemmas on chains of entries: the latest entry of a vertex, and a step back from one to the one before.
use Rattle.std.proofs.Common.{◌≡◌, ◌≢◌, ℕ, zero, suc, ◌+◌, ◌-◌, ◌<◌, ◌≤◌, true, false, List, [], ◌∷◌, ◌++◌, length, map, take, get_or, reverse, refl, sym}
use Rattle.std.proofs.Common.{ap, ◌∙◌, subst, arith, inl, inr, cond, Bool, length-take-le, get_or-take, take-take, take-suc, append_assoc}
use Rattle.std.proofs.lemmas.Bool.Decides.{nat_tests, eqb_tells}
use Rattle.std.proofs.lemmas.List.{map-append, reverse-append}
use Rattle.std.proofs.lemmas.List.Sums.{sum_by-cons}
use Rattle.std.proofs.lemmas.List.Elements.{filter-append}
use Rattle.std.specs.Prelude.{◌==◌, if◌then◌else◌}
use Rattle.go_word.specs.declared.edge.Edge.{Edge}
use Rattle.go_word.specs.Log.{leaves, entries_from, raw}
use Rattle.go_word.specs.Word.{plain_word}
use Rattle.go_plain.specs.Ring.{latest_of}

-- the latest entry is among the entries
pub latest_of-le : (s : ℕ) (log : List Edge) → latest_of s log ≤ length log
latest_of-le s [] = omega arith
latest_of-le s (e ∷ log) = let rest = latest_of-le s log in grind (arith, nat_tests, rest)

-- one more entry is the latest of the vertex that it leaves
pub latest_of-push : (s : ℕ) (log : List Edge) (e : Edge) → latest_of s (log ++ e ∷ []) ≡ (if leaves s e then length log + 1 else latest_of s log)
latest_of-push s [] e = grind (arith, nat_tests)
latest_of-push s (x ∷ log) e = let rest = latest_of-push s log e in grind (arith, nat_tests, rest)

-- in front of other entries, an entry is the latest where none of them is
latest_of-cons_none : (s : ℕ) (x : Edge) (log : List Edge) → latest_of s log ≡ 0 → latest_of s (x ∷ log) ≡ (if leaves s x then 1 else 0)
latest_of-cons_none s x log none = grind (arith, nat_tests, none)

latest_of-cons_some : (s : ℕ) (x : Edge) (log : List Edge) → latest_of s log ≢ 0 → latest_of s (x ∷ log) ≡ suc (latest_of s log)
latest_of-cons_some s x log some = grind (arith, nat_tests, some)

-- the count of the entries that leave a vertex, entry by entry
raw-cons : (s : ℕ) (x : Edge) (log : List Edge) → raw (x ∷ log) s ≡ (if leaves s x then 1 else 0) + raw log s
raw-cons s x log = sum_by-cons (λ e. if leaves s e then 1 else 0) x log

-- a vertex that no entry leaves has no latest one
pub latest_of-none : (s : ℕ) (log : List Edge) → raw log s ≡ 0 → latest_of s log ≡ 0
latest_of-none s [] none = refl
latest_of-none s (x ∷ log) none =
    let cut = raw-cons s x log in
    let fewer : raw log s ≡ 0 = omega (arith, cut, none) in
    let rest = latest_of-none s log fewer in
    let first = latest_of-cons_none s x log rest in
    grind (arith, nat_tests, cut, none, first)

-- no entries leave a vertex in an empty log
entries_from-none : (s n : ℕ) → entries_from s (take n []) ≡ []
entries_from-none s zero = refl
entries_from-none s (suc n) = refl

-- where only the first entry can leave a vertex, it is told by the number of the latest
entries_from-first : (s : ℕ) (x : Edge) (log more : List Edge) (b : Bool) → entries_from s more ≡ [] → leaves s x ≡ b →
    entries_from s (x ∷ more) ≡ entries_from s (take (if b then 1 else 0) (x ∷ log))
entries_from-first s x log more true none is = ap (λ r. cond (leaves s x) (x ∷ r) r) none
entries_from-first s x log more false none is = rw is none

-- behind its latest entry none leaves the vertex
pub entries_from-past : (s c : ℕ) (log : List Edge) → latest_of s log ≤ c → entries_from s (take c log) ≡ entries_from s (take (latest_of s log) log)
entries_from-past s c [] past = entries_from-none s c
entries_from-past s zero (x ∷ log) past =
    let none : latest_of s (x ∷ log) ≡ 0 = omega (arith, past) in
    rw none refl
entries_from-past s (suc c) (x ∷ log) past =
    elim (eqb_tells (latest_of s log) 0) [
      | inl h ↦
          let none : latest_of s log ≡ 0 = h.1 in
          let rest : entries_from s (take c log) ≡ entries_from s (take (latest_of s log) log) = entries_from-past s c log (omega (arith, none)) in
          let empty : entries_from s (take (latest_of s log) log) ≡ [] = rw none refl in
          subst (λ (n : ℕ). entries_from s (x ∷ take c log) ≡ entries_from s (take n (x ∷ log))) (sym (latest_of-cons_none s x log none))
          (entries_from-first s x log (take c log) (leaves s x) (rest ∙ empty) refl)
      | inr h ↦
          let more = latest_of-cons_some s x log h.1 in
          let rest = entries_from-past s c log (omega (arith, past, more)) in
          rw more (ap (λ r. cond (leaves s x) (x ∷ r) r) rest)
    ]

-- an empty log has no latest entry
latest_of-take_none : (s n : ℕ) → latest_of s (take n []) ≡ 0
latest_of-take_none s zero = refl
latest_of-take_none s (suc n) = refl

-- what stands behind the latest entry doesn't matter
pub latest_of-take : (s c : ℕ) (log : List Edge) → latest_of s log ≤ c → latest_of s (take c log) ≡ latest_of s log
latest_of-take s c [] past = latest_of-take_none s c
latest_of-take s zero (x ∷ log) past = let none : latest_of s (x ∷ log) ≡ 0 = omega (arith, past) in sym none
latest_of-take s (suc c) (x ∷ log) past =
    let fewer : latest_of s log ≤ c = grind (arith, nat_tests, past) in
    ap (λ (n : ℕ). if n == 0 then (if leaves s x then 1 else 0) else n + 1) (latest_of-take s c log fewer)

-- the latest entry that leaves a vertex leaves it
leaves_latest : (s : ℕ) (log : List Edge) (slot : ℕ) (d : Edge) → latest_of s log ≡ suc slot → leaves s (get_or log slot d) ≡ true
leaves_latest s [] slot d is = absurd (omega (arith, is))
leaves_latest s (x ∷ log) zero d is = grind (arith, nat_tests, is)
leaves_latest s (x ∷ log) (suc slot) d is =
    let rest : latest_of s log ≡ suc slot = grind (arith, nat_tests, is) in
    leaves_latest s log slot d rest

-- the latest entry of a vertex among a log's first ones, by the slot where it stands
pub record IsLatestAt (s top slot : ℕ) (log : List Edge) (d : Edge) : Type 0 where
  pub before : slot < top
  pub source : (get_or log slot d).src ≡ s
  pub entries : entries_from s (take top log) ≡ entries_from s (take slot log) ++ get_or log slot d ∷ []

-- a number that isn't 0 tells the slot of the latest entry
pub latest_at : (s top number : ℕ) (log : List Edge) (d : Edge) → top ≤ length log → 0 < number → number ≡ latest_of s (take top log) →
    IsLatestAt s top (number - 1) log d
latest_at s top number log d within some is =
    let slot = number - 1 in
    let next : number ≡ suc slot = omega arith in
    let few : latest_of s (take top log) ≤ length (take top log) = latest_of-le s (take top log) in
    let long : length (take top log) ≡ top = length-take-le top log within in
    let below : slot < top = omega arith in
    let there : get_or (take top log) slot d ≡ get_or log slot d = get_or-take top log slot d below in
    let leaving : leaves s (get_or log slot d) ≡ true = subst (λ (e : Edge). leaves s e ≡ true) there (leaves_latest s (take top log) slot d (sym is ∙ next)) in
    let past : entries_from s (take top (take top log)) ≡ entries_from s (take (latest_of s (take top log)) (take top log)) =
    entries_from-past s top (take top log) (omega arith) in
    let whole : take top (take top log) ≡ take top log = take-take top top log (omega arith) in
    let part : take number (take top log) ≡ take number log = take-take number top log (omega arith) in
    let cut : take number log ≡ take slot log ++ get_or log slot d ∷ [] = ap (λ (n : ℕ). take n log) next ∙ take-suc log slot d (omega arith) in
    let last : entries_from s (get_or log slot d ∷ []) ≡ get_or log slot d ∷ [] = rw leaving refl in
    record {
      before = below;
      source = grind (arith, nat_tests, leaving);
      entries = ap (entries_from s) (sym whole) ∙ past ∙ ap (λ (n : ℕ). entries_from s (take n (take top log))) (sym is) ∙ ap (entries_from s) (part ∙ cut)
          ∙ filter-append (leaves s) (take slot log) (get_or log slot d ∷ []) ∙ ap (λ r. entries_from s (take slot log) ++ r) last;
    }

-- a number is that of the latest of the first entries where none of the others leaves the vertex
pub latest_of-shorter : (s n m number : ℕ) (log : List Edge) → n ≤ m → number ≡ latest_of s (take m log) → number ≤ n → number ≡ latest_of s (take n log)
latest_of-shorter s n m number log shorter is few =
    let same : latest_of s (take n (take m log)) ≡ latest_of s (take m log) = latest_of-take s n (take m log) (omega (arith, is, few)) in
    is ∙ sym same ∙ ap (latest_of s) (take-take n m log shorter)

-- where a vertex has no latest entry, none leaves it
pub entries_from-done : (s top number : ℕ) (log : List Edge) → number ≡ latest_of s (take top log) → number ≡ 0 → entries_from s (take top log) ≡ []
entries_from-done s top number log is none =
    let zero_latest : latest_of s (take top log) ≡ 0 = sym is ∙ none in
    let past : entries_from s (take top (take top log)) ≡ entries_from s (take (latest_of s (take top log)) (take top log)) =
    entries_from-past s top (take top log) (omega (arith, zero_latest)) in
    ap (entries_from s) (sym (take-take top top log (omega arith))) ∙ past ∙ ap (λ (n : ℕ). entries_from s (take n (take top log))) zero_latest

-- the word of the latest entry comes next where a list is written backwards
pub words_back : (s top slot : ℕ) (log : List Edge) (d : Edge) (old new all : List ℕ) (w : ℕ) → IsLatestAt s top slot log d → new ≡ old ++ w ∷ [] →
    w ≡ plain_word (get_or log slot d)
    → map plain_word (entries_from s (take top log)) ++ reverse old ≡ all → map plain_word (entries_from s (take slot log)) ++ reverse new ≡ all
words_back s top slot log d old new all w latest pushed word so_far =
    let front = map plain_word (entries_from s (take slot log)) in
    let back : reverse new ≡ w ∷ reverse old = ap reverse pushed ∙ reverse-append old (w ∷ []) in
    let cut : map plain_word (entries_from s (take top log)) ≡ front ++ plain_word (get_or log slot d) ∷ [] = ap (map plain_word) latest.entries
    ∙ map-append plain_word (entries_from s (take slot log)) (get_or log slot d ∷ []) in
    ap (λ l. front ++ l) (back ∙ ap (λ (v : ℕ). v ∷ reverse old) word) ∙ sym (append_assoc front (plain_word (get_or log slot d) ∷ []) (reverse old))
    ∙ ap (λ l. l ++ reverse old) (sym cut) ∙ so_far
