-- The entries that the words of a copy hold are those that its seat has seen.
use Rattle.std.proofs.Common.{◌≡◌, ℕ, zero, suc, ◌+◌, ◌-◌, ◌%◌, ◌<◌, ◌≤◌, List, [], ◌∷◌, ◌++◌, take, drop, slice_index, sym, refl, ap, ◌∙◌, arith, append_assoc}
use Rattle.std.proofs.Math.Nat.{mod-add-mod}
use mathlib.Core.Option.{some}
use lib.ListN.{get_elem?}
use Rattle.atomic_table.proofs.Lists.{drop_at}
use Rattle.go_word.specs.declared.edge.Edge.{Edge}
use Rattle.go_word.specs.declared.word.TheConstants.{ID_LIMIT}
use Rattle.go_word.specs.Word.{decode}
use Rattle.go_word.proofs.WordLaws.{decode-word}
use Rattle.go_core.specs.declared.entry.Load.{Load}
use Rattle.go_rule.specs.Steps.{IsWordOf}
use Rattle.go_stream.specs.Spans.{entries_from}

-- the slot of the next position
pub slot_next : (slot p n : ℕ) → slot ≡ p % n → (slot + 1) % n ≡ (p + 1) % n
slot_next slot p n is = ap (λ s. (s + 1) % n) is ∙ mod-add-mod p n 1

-- an entry more was added, and the rest is still to be
pub entry_next : (slots p to : ℕ) (words : List ℕ) (items new all : List Edge) (e : Edge) → p < to → e ≡ decode (slice_index words (p % slots))
    → new ≡ items ++ e ∷ [] → items ++ entries_from slots p (to - p) words ≡ all → new ++ entries_from slots (p + 1) (to - (p + 1)) words ≡ all
entry_next slots p to words items new all e less is added was =
    let k = to - (p + 1) in
    let rest = entries_from slots (p + 1) k words in
    ap (λ l. l ++ rest) added ∙ append_assoc items (e ∷ []) rest ∙ ap (λ x. items ++ x ∷ rest) is
    ∙ ap (λ n. items ++ entries_from slots p n words) {x = suc k} {y = to - p} (omega arith) ∙ was

-- a word that is that of an entry holds it, where words can hold the ids of all vertices
pub decoded : (slots vertices : ℕ) (seen : List Edge) (l : Load) → vertices ≤ ID_LIMIT → IsWordOf slots vertices seen l
    → get_elem? seen l.at ≡ some (decode l.word)
decoded slots vertices seen l ids of =
    let src = of.below.src in
    let dst = of.below.dst in
    of.there
    ∙ ap some (sym (ap decode of.is ∙ decode-word slots l.at of.edge (record { within = record { source = omega arith; destination = omega arith } })))

-- the words of positions that were seen hold what was seen there
pub entries_seen : (slots : ℕ) (words : List ℕ) (seen : List Edge) (n p : ℕ)
    → ((q : ℕ) → p ≤ q → q < p + n → get_elem? seen q ≡ some (decode (slice_index words (q % slots)))) → entries_from slots p n words ≡ take n (drop p seen)
entries_seen slots words seen zero p there = refl
entries_seen slots words seen (suc n) p there =
    let e = decode (slice_index words (p % slots)) in
    let next : suc p ≡ p + 1 = omega arith in
    ap (λ es. e ∷ es) (entries_seen slots words seen n (p + 1) (λ q from to. there q (omega arith) (omega arith)))
    ∙ ap (λ j. e ∷ take n (drop j seen)) (sym next)
    ∙ sym (ap (take (suc n)) (drop_at seen p e (there p (omega arith) (omega arith))))
