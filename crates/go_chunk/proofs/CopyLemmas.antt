-- A front of the pieces' words that is copied piece by piece.
use Rattle.std.proofs.Common.{◌≡◌, ℕ, zero, suc, ◌+◌, ◌-◌, ◌<◌, ◌≤◌, min, List, [], ◌∷◌, ◌++◌, length, get_or, take, drop, refl, sym, ap, ◌∙◌, arith}
use Rattle.std.proofs.Common.{length-append, length-take, append_assoc, add-one, drop-cons}
use Rattle.std.proofs.lemmas.List.{take-append-le, take-take}
use Rattle.std.proofs.lemmas.Grind.{common_steps}
use Rattle.go_chunk.specs.declared.classes.Piece.{Piece}
use Rattle.go_chunk.specs.Pieces.{words_of, words_of_all}

-- with `left` words of the remaining pieces behind it, the copy is the old list and the whole front
pub record IsCopying (old front copy : List ℕ) (left : ℕ) (pieces : List Piece) : Type 0 where
  pub enough : left ≤ length (words_of_all pieces)
  pub ends : copy ++ take left (words_of_all pieces) ≡ old ++ front
  pub begins : take (length old) copy ≡ old

-- a front of two lists joined is a front of the first and then what is left of the second
take-joined : (n k : ℕ) (xs ys : List ℕ) → k ≡ min n (length xs) → take n (xs ++ ys) ≡ take k xs ++ take (n - k) ys
take-joined n k [] ys is = let zero_is : k ≡ 0 = omega arith in rw zero_is (grind (arith, common_steps))
take-joined zero k (x ∷ xs) ys is = let zero_is : k ≡ 0 = omega arith in rw zero_is refl
take-joined (suc n) zero (x ∷ xs) ys is = absurd (omega arith)
take-joined (suc n) (suc k) (x ∷ xs) ys is =
    let step : suc n - suc k ≡ n - k = omega arith in
    rw step (ap (λ l. x ∷ l) (take-joined n k xs ys (omega arith)))

-- a piece that is copied as far as it is wanted leaves the later pieces to be copied
pub is_copying-next : (old front copy : List ℕ) (left i count : ℕ) (ps : List Piece) (piece : Piece) (copied : List ℕ) →
    IsCopying old front copy left (drop i ps) → i < length ps → piece ≡ get_or ps i piece → count ≡ min left (length (words_of piece)) →
    copied ≡ copy ++ take count (words_of piece) → IsCopying old front copied (left - count) (drop (i + 1) ps)
is_copying-next old front copy left i count ps piece copied h inside is counted added =
    let split : drop i ps ≡ piece ∷ drop (i + 1) ps = rw add-one (drop-cons ps i piece inside ∙ ap (λ q. q ∷ drop (suc i) ps) (sym is)) in
    let parts : words_of_all (drop i ps) ≡ words_of piece ++ words_of_all (drop (i + 1) ps) = ap words_of_all split in
    let total : length (words_of_all (drop i ps)) ≡ length (words_of piece) + length (words_of_all (drop (i + 1) ps)) = ap length parts
    ∙ length-append (words_of piece) (words_of_all (drop (i + 1) ps)) in
    let long : length old ≤ length copy = omega (arith, ap length h.begins, length-take (length old) copy) in
    record {
      enough = omega (arith, h.enough, total);
      ends = rw added (append_assoc copy (take count (words_of piece)) (take (left - count) (words_of_all (drop (i + 1) ps)))
          ∙ ap (λ l. copy ++ l) (sym (take-joined left count (words_of piece) (words_of_all (drop (i + 1) ps)) counted))
          ∙ ap (λ l. copy ++ take left l) (sym parts) ∙ h.ends);
      begins = rw added (take-append-le (length old) copy (take count (words_of piece)) long ∙ h.begins);
    }

-- the front of two lists that are copied one after the other
pub copied-both : (old mid new first later : List ℕ) (n k : ℕ) → n ≡ min k (length first) → mid ≡ old ++ take n first → new ≡ mid ++ take (k - n) later →
    new ≡ old ++ take k (first ++ later)
copied-both old mid new first later n k counted one two =
    two ∙ ap (λ l. l ++ take (k - n) later) one ∙ append_assoc old (take n first) (take (k - n) later)
    ∙ ap (λ l. old ++ l) (sym (take-joined k n first later counted))

-- a list that begins as one that began with the old list begins with the old list
pub begins-twice : (old mid new : List ℕ) → take (length old) mid ≡ old → take (length mid) new ≡ mid → take (length old) new ≡ old
begins-twice old mid new one two =
    let short : length old ≤ length mid = omega (arith, ap length one, length-take (length old) mid) in
    sym (take-take (length old) (length mid) new short) ∙ ap (λ l. take (length old) l) two ∙ one

-- a front of what is seen of a list is the same front of the list
pub front-of_view : (k len : ℕ) (all view : List ℕ) → take len all ≡ view → k ≤ length view → take k all ≡ take k view
front-of_view k len all view is short =
    sym (take-take k len all (omega (arith, ap length is, length-take len all))) ∙ ap (λ l. take k l) is
