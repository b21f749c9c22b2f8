-- Steps of the loops over lists of entries.
use Rattle.std.proofs.Common.{◌≡◌, ℕ, zero, suc, ◌+◌, ◌<◌, true, false, cond, List, [], ◌∷◌, ◌++◌, length, get_or, take, drop, Some, sym, ap, ◌∙◌, arith}
use Rattle.std.specs.Prelude.{find}
use Rattle.std.specs.List.{suffix_len, prefix_len}
use Rattle.std.proofs.lemmas.List.{reverse-append, length_push, append_assoc, length-take-le, take_more}
use Rattle.go_word.specs.declared.edge.Edge.{Edge}
use Rattle.go_core.specs.declared.entry.Entry.{Entry}
use Rattle.go_core.specs.View.{stands_at, numbered, without, is_after, before_later}

-- one more edge is numbered by how many there were
pub numbered_push : (p : ℕ) (es : List Edge) (e : Edge) (q : ℕ) → q ≡ p + length es
    → numbered p (es ++ e ∷ []) ≡ numbered p es ++ record { at = q; edge = e } ∷ []
numbered_push p [] e q is = let here : p ≡ q = omega arith in ap (λ (n : ℕ). record { at = n; edge = e } ∷ []) here
numbered_push p (x ∷ es) e q is = ap (λ ys. record { at = p; edge = x } ∷ ys) (numbered_push (p + 1) es e q (omega arith))

-- the first of a list that stands at a position is taken out, and else it stays
pub without-here : (p : ℕ) (x : Entry) (xs : List Entry) → stands_at p x ≡ true → without p (x ∷ xs) ≡ xs
without-here p x xs here = ap (λ b. cond b xs (x ∷ without p xs)) here

pub without-other : (p : ℕ) (x : Entry) (xs : List Entry) → stands_at p x ≡ false → without p (x ∷ xs) ≡ x ∷ without p xs
without-other p x xs other = ap (λ b. cond b xs (x ∷ without p xs)) other

pub find-here : (p : ℕ) (x : Entry) (xs : List Entry) → stands_at p x ≡ true → find (stands_at p) (x ∷ xs) ≡ Some x
find-here p x xs here = ap (λ b. cond b (Some x) (find (stands_at p) xs)) here

pub find-other : (p : ℕ) (x : Entry) (xs : List Entry) → stands_at p x ≡ false → find (stands_at p) (x ∷ xs) ≡ find (stands_at p) xs
find-other p x xs other = ap (λ b. cond b (Some x) (find (stands_at p) xs)) other

-- entries at the end: one that comes after a position, and one that doesn't
suffix-push : (p : ℕ) (xs : List Entry) (y : Entry) → suffix_len (is_after p) (xs ++ y ∷ []) ≡ cond (is_after p y) (1 + suffix_len (is_after p) xs) 0
suffix-push p xs y = ap (prefix_len (is_after p)) (reverse-append xs (y ∷ []))

pub before_later-later : (p : ℕ) (xs : List Entry) (y : Entry) → is_after p y ≡ true → before_later p (xs ++ y ∷ []) ≡ before_later p xs
before_later-later p xs y later =
    let more : suffix_len (is_after p) (xs ++ y ∷ []) ≡ 1 + suffix_len (is_after p) xs = suffix-push p xs y
    ∙ ap (λ b. cond b (1 + suffix_len (is_after p) xs) 0) later in
    omega (arith, length_push xs y)

pub before_later-other : (p : ℕ) (xs : List Entry) (y : Entry) → is_after p y ≡ false → before_later p (xs ++ y ∷ []) ≡ length xs + 1
before_later-other p xs y other =
    let none : suffix_len (is_after p) (xs ++ y ∷ []) ≡ 0 = suffix-push p xs y ∙ ap (λ b. cond b (1 + suffix_len (is_after p) xs) 0) other in
    omega (arith, length_push xs y)

-- a list that is gone through from its front: what is behind and what is left
pub record Through (xs rest : List Entry) (k : ℕ) : Type 0 where
  pub left : rest ≡ drop k xs
  pub adds_up : k + length rest ≡ length xs

pub through_step : (xs rest rest' : List Entry) (k : ℕ) (y : Entry) → Through xs rest k → rest ≡ y ∷ rest'
    → Through xs rest' (k + 1) × (take (k + 1) xs ≡ take k xs ++ y ∷ [])
through_step xs rest rest' k y t is =
    let left : drop k xs ≡ y ∷ rest' = sym t.left ∙ is in
    let some : length rest ≡ 1 + length rest' = ap length is ∙ omega arith in
    let sum = t.adds_up in
    let both = split xs k y rest' left in
    (record { left = sym both.0; adds_up = omega arith }, both.1)
  where
    split : (xs : List Entry) (k : ℕ) (y : Entry) (ys : List Entry) → drop k xs ≡ y ∷ ys → (drop (k + 1) xs ≡ ys) × (take (k + 1) xs ≡ take k xs ++ y ∷ [])
    split [] zero y ys e = absurd (cc)
    split [] (suc k) y ys e = absurd (cc)
    split (x ∷ xs) zero y ys e =
        let tail : xs ≡ ys = cc in
        let head : x ≡ y = cc in
        (tail, ap (λ z. z ∷ []) head)
    split (x ∷ xs) (suc k) y ys e =
        let step : suc k + 1 ≡ suc (k + 1) = omega arith in
        let rest = split xs k y ys e in
        (ap (λ n. drop n (x ∷ xs)) step ∙ rest.0, ap (λ n. take n (x ∷ xs)) step ∙ ap (λ zs. x ∷ zs) rest.1)

-- the edges so far and the next one, numbered
pub numbered_more : (p : ℕ) (es : List Edge) (i : ℕ) (d : Edge) (list : List Entry) (at : ℕ) → i < length es → list ≡ numbered p (take i es) → at ≡ p + i
    → list ++ record { at = at; edge = get_or es i d } ∷ [] ≡ numbered p (take (i + 1) es)
numbered_more p es i d list at within is next =
    let short : length (take i es) ≡ i = length-take-le i es (omega arith) in
    let more : take (i + 1) es ≡ take i es ++ get_or es i d ∷ [] = take_more es i d within in
    ap (λ ys. ys ++ record { at = at; edge = get_or es i d } ∷ []) is ∙ sym (numbered_push p (take i es) (get_or es i d) at (omega arith))
    ∙ ap (numbered p) (sym more)

-- the entry that stands at a position is found: the list without it
pub place_found : (p : ℕ) (xs rest rest' : List Entry) (k : ℕ) (y : Entry) → Through xs rest k → rest ≡ y ∷ rest' → without p xs ≡ take k xs ++ without p rest
    → stands_at p y ≡ true → without p xs ≡ take k xs ++ drop (k + 1) xs
place_found p xs rest rest' k y t is so_far here =
    let next = through_step xs rest rest' k y t is in
    so_far ∙ ap (λ zs. take k xs ++ without p zs) is ∙ ap (λ zs. take k xs ++ zs) (without-here p y rest' here ∙ next.0.left)

-- and one that doesn't is passed
pub place_passed : (p : ℕ) (xs rest rest' : List Entry) (k : ℕ) (y : Entry) → Through xs rest k → rest ≡ y ∷ rest'
    → without p xs ≡ take k xs ++ without p rest → stands_at p y ≡ false → Through xs rest' (k + 1) × (without p xs ≡ take (k + 1) xs ++ without p rest')
place_passed p xs rest rest' k y t is so_far other =
    let next = through_step xs rest rest' k y t is in (
      next.0,
      so_far ∙ ap (λ zs. take k xs ++ without p zs) is ∙ ap (λ zs. take k xs ++ zs) (without-other p y rest' other)
          ∙ sym (append_assoc (take k xs) (y ∷ []) (without p rest')) ∙ ap (λ zs. zs ++ without p rest') (sym next.1),
    )
