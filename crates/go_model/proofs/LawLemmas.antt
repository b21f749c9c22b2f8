-- There is one answer to each question.
use Rattle.std.proofs.Common.{◌≡◌, ℕ, zero, suc, ◌+◌, ◌<◌, ◌⊎◌, inl, inr, ⊎_elim, List, []}
use Rattle.std.proofs.Common.{◌∷◌, length, get_or, refl, sym, ◌∙◌, subst, ap, arith, ext_get_or, add-suc, add-zero}
use Rattle.std.proofs.lemmas.List.Elements.{All-contains, All-head, All-tail}
use Rattle.std.proofs.lemmas.List.Kept.{AllPairs-from_increasing}
use Rattle.std.specs.List.{AllPairs}
use Rattle.std.specs.Prelude.{All, Contains, Option, Some, None}
use Rattle.go_word.specs.declared.edge.Edge.{Edge}
use Rattle.go_word.specs.declared.ranked.Ranked.{Ranked}
use Rattle.go_model.specs.Levels.{Walk, IsLevel, AreLevels}
use Rattle.go_model.specs.Ranks.{degree, Precedes, IsRank}
use Rattle.go_model.specs.Hops.{IsHop}
use Rattle.go_model.proofs.MemberLemmas.{Contains-first, Contains-later, Contains-which, Contains-none, AllPairs-first, AllPairs-rest, same-first, in-rest}

-- a vertex has one level
pub IsLevel-same : (log : List Edge) (r v : ℕ) (a b : Option ℕ) → IsLevel log r v a → IsLevel log r v b → a ≡ b
IsLevel-same log r v None None one other = refl
IsLevel-same log r v None (Some m) one other = absurd (one m other.walk)
IsLevel-same log r v (Some n) None one other = absurd (other n one.walk)
IsLevel-same log r v (Some n) (Some m) one other =
    let up = one.least m other.walk in
    let down = other.least n one.walk in
    let same : n ≡ m = omega arith in
    ap (λ (k : ℕ). Some k) same

-- a graph has one list of levels
pub AreLevels-same : (log : List Edge) (size r : ℕ) (a b : List (Option ℕ)) → AreLevels log size r a → AreLevels log size r b → a ≡ b
AreLevels-same log size r a b one other = ext_get_or None a b (one.all ∙ sym other.all) (λ v within.
    let inside : v < size = subst (λ (n : ℕ). v < n) one.all within in
    IsLevel-same log r v (get_or a v None) (get_or b v None) (one.each v inside) (other.each v inside))

-- lists in order with the same members are the same
in-order-same : {X : Type 0} (R : X → X → Type 0) (asym : (x y : X) → R x y → R y x → ⊥) (xs ys : List X) → AllPairs R xs → AllPairs R ys
    → ((z : X) → Contains xs z → Contains ys z) → ((z : X) → Contains ys z → Contains xs z) → xs ≡ ys
in-order-same R asym [] [] left right there back = refl
in-order-same R asym [] (y ∷ ys) left right there back = absurd (Contains-none y (back y (Contains-first y ys)))
in-order-same R asym (x ∷ xs) [] left right there back = absurd (Contains-none x (there x (Contains-first x xs)))
in-order-same R asym (x ∷ xs) (y ∷ ys) left right there back =
    let same : x ≡ y = same-first R asym x y xs ys left right (there x (Contains-first x xs)) (back y (Contains-first y ys)) in
    let rest : xs ≡ ys = in-order-same R asym xs ys (AllPairs-rest R x xs left) (AllPairs-rest R y ys right)
    (λ z among. in-rest R asym x y z xs ys left same among (there z (Contains-later x xs z among)))
    (λ z among. in-rest R asym y x z ys xs right (sym same) among (back z (Contains-later y ys z among))) in
    rw (same, rest) refl

-- a vertex has one hop
pub IsHop-same : (log : List Edge) (v : ℕ) (a b : List ℕ) → IsHop log v a → IsHop log v b → a ≡ b
IsHop-same log v a b one other = in-order-same (λ x y. x < y) (λ x y less more. omega arith) a b
    (AllPairs-from_increasing a one.rises) (AllPairs-from_increasing b other.rises)
    (λ z among. (other.members z).1 ((one.members z).0 among))
    (λ z among. (one.members z).1 ((other.members z).0 among))

-- no two vertices precede each other
Precedes-asym : (a b : Ranked) → Precedes a b → Precedes b a → ⊥
Precedes-asym a b = ⊎_elim
    (λ more. ⊎_elim (λ again. omega arith) (λ same. let s = same.0 in omega arith))
    (λ first. ⊎_elim (λ more. let s = first.0 in omega arith) (λ same. let l = first.1 in let r = same.1 in omega arith))

-- what isn't in a list in order comes after its first one, or is that
after-first : (y z : Ranked) (ys : List Ranked) → AllPairs Precedes (y ∷ ys) → Contains (y ∷ ys) z ⊎ All (λ x. Precedes x z) (y ∷ ys) → (y ≡ z) ⊎ Precedes y z
after-first y z ys pairs = ⊎_elim
    (λ among. ⊎_elim (λ e. inl e) (λ rest. inr (All-contains (Precedes y) ys z (AllPairs-first Precedes y ys pairs) rest)) (Contains-which y ys z among))
    (λ all. inr (All-head (λ x. Precedes x z) y ys all))

-- what is left where the first one is taken off
rest-first : (x z : Ranked) (xs : List Ranked) → (x ≡ z → ⊥)
    → Contains (x ∷ xs) z ⊎ All (λ y. Precedes y z) (x ∷ xs) → Contains xs z ⊎ All (λ y. Precedes y z) xs
rest-first x z xs other = ⊎_elim
    (λ among. ⊎_elim (λ e. absurd (other e)) (λ rest. inl rest) (Contains-which x xs z among))
    (λ all. inr (All-tail (λ y. Precedes y z) x xs all))

-- lists of the first ones of the same vertices, in order, are the same where they are as long
first-ones-same : (C : Ranked → Type 0) (xs ys : List Ranked) → length xs ≡ length ys → AllPairs Precedes xs → AllPairs Precedes ys
    → All C xs → All C ys
    → ((z : Ranked) → C z → Contains xs z ⊎ All (λ x. Precedes x z) xs)
    → ((z : Ranked) → C z → Contains ys z ⊎ All (λ x. Precedes x z) ys)
    → xs ≡ ys
first-ones-same C [] [] long left right own other one two = refl
first-ones-same C [] (y ∷ ys) long left right own other one two = absurd (omega arith)
first-ones-same C (x ∷ xs) [] long left right own other one two = absurd (omega arith)
first-ones-same C (x ∷ xs) (y ∷ ys) long left right own other one two =
    let same : x ≡ y = ⊎_elim
    (λ e. sym e)
    (λ before. ⊎_elim (λ e. e) (λ after. absurd (Precedes-asym y x before after)) (after-first x y xs left (one y (All-head C y ys other))))
    (after-first y x ys right (two x (All-head C x xs own))) in
    let D : Ranked → Type 0 = λ z. C z × (x ≡ z → ⊥) in
    let rest : xs ≡ ys = first-ones-same D xs ys (omega arith) (AllPairs-rest Precedes x xs left) (AllPairs-rest Precedes y ys right)
    (λ k d within. (
      All-tail C x xs own k d within,
      λ e.
          let before : Precedes x (get_or xs k d) = AllPairs-first Precedes x xs left k d within in
          let here : Precedes x x = subst (λ (z : Ranked). Precedes x z) (sym e) before in Precedes-asym x x here here,
    ))
    (λ k d within. (
      All-tail C y ys other k d within,
      λ e.
          let before : Precedes y (get_or ys k d) = AllPairs-first Precedes y ys right k d within in
          let here : Precedes y y = subst (λ (z : Ranked). Precedes y z) (sym e ∙ same) before in Precedes-asym y y here here,
    ))
    (λ z own. rest-first x z xs own.1 (one z own.0))
    (λ z own. rest-first y z ys (λ e. own.1 (same ∙ e)) (two z own.0)) in
    rw (same, rest) refl

-- the first ones of a rank, of any vertex with its degree
first-of : (log : List Edge) (size k : ℕ) (list : List Ranked) → IsRank log size k list → (z : Ranked) → (z.vertex < size) × (z.degree ≡ degree log z.vertex)
    → Contains list z ⊎ All (λ x. Precedes x z) list
first-of log size k list rank z own =
    subst (λ (n : ℕ). Contains list (record { vertex = z.vertex; degree = n }) ⊎ All (λ x. Precedes x (record { vertex = z.vertex; degree = n })) list)
    (sym own.1) (rank.first z.vertex own.0)

-- a graph has one rank of so many
pub IsRank-same : (log : List Edge) (size k : ℕ) (a b : List Ranked) → IsRank log size k a → IsRank log size k b → a ≡ b
IsRank-same log size k a b one other = first-ones-same (λ z. (z.vertex < size) × (z.degree ≡ degree log z.vertex)) a b (one.most ∙ sym other.most)
    one.ordered other.ordered one.own other.own (first-of log size k a one) (first-of log size k b other)

-- a walk and a further one are a walk
pub Walk-onward : (log : List Edge) (a b c n m : ℕ) → Walk log a b n → Walk log b c m → Walk log a c (n + m)
Walk-onward log a b c n zero one more = rw add-zero (subst (λ (v : ℕ). Walk log a v n) more one)
Walk-onward log a b c n (suc m) one more = rw add-suc (more.0, Walk-onward log a b more.0 n m one more.1, more.2)

-- a vertex is at level 0 from itself
pub IsLevel-root : (log : List Edge) (r : ℕ) → IsLevel log r r (Some 0)
IsLevel-root log r = record { walk = refl; least = λ m walk. omega arith }
