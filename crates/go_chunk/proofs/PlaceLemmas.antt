-- Where a word stands among the pieces, and what putting one there leaves.
use Rattle.std.proofs.Common.{◌≡◌, ℕ, zero, suc, ◌+◌, ◌-◌, ◌<◌, ◌≤◌, List, [], ◌∷◌, ◌++◌, length, get_or, set, refl, sym, ap, ◌∙◌, arith, length-append}
use Rattle.std.proofs.lemmas.List.{get_or_append_left, get_or-append_right, set-append_left, set-append_right, length-set}
use Rattle.std.proofs.lemmas.Grind.{common_steps}
use Rattle.go_chunk.specs.declared.classes.Piece.{Piece}
use Rattle.go_chunk.specs.Pieces.{words_of, words_of_all, class_at, start_of, later_classes, HaveClasses}

-- the class of a later piece, in the table without its first class
pub class_at-suc : (classes : List ℕ) (i : ℕ) → class_at classes (suc i) ≡ class_at (later_classes classes) i
class_at-suc [] i = refl
class_at-suc (c ∷ cs) i = grind (arith, common_steps)

-- the start of a later piece is behind the first
pub start_of-suc : (classes : List ℕ) (i : ℕ) → start_of classes (suc i) ≡ class_at classes 0 + start_of (later_classes classes) i
start_of-suc [] i = grind arith
start_of-suc (c ∷ cs) i = grind (arith, common_steps)

-- the first piece starts at 0
pub start_of-zero : (classes : List ℕ) → start_of classes 0 ≡ 0
start_of-zero [] = refl
start_of-zero (c ∷ cs) = refl

-- where the word at `i` stands: the piece and the place in it
pub record StandsAt (ps : List Piece) (i p o : ℕ) (d : Piece) : Type 0 where
  pub inside : p < length ps
  pub within : o < length (words_of (get_or ps p d))
  pub word : get_or (words_of_all ps) i 0 ≡ get_or (words_of (get_or ps p d)) o 0

-- the place that the table tells is where the word stands
pub stands_at : (classes : List ℕ) (ps : List Piece) (i p o : ℕ) (d : Piece) → HaveClasses classes ps → start_of classes p + o ≡ i →
    o < class_at classes p → i < length (words_of_all ps) → StandsAt ps i p o d
stands_at classes [] i p o d h found within inside = absurd (omega arith)
stands_at classes (q ∷ ps) i zero o d h found within inside =
    let same : o ≡ i = omega (arith, start_of-zero classes) in
    let short : i < length (words_of q) = omega (arith, h.0) in
    record {
      inside = omega arith;
      within = omega arith;
      word = get_or_append_left (words_of q) (words_of_all ps) 0 i short ∙ ap (λ k. get_or (words_of q) k 0) (sym same);
    }
stands_at classes (q ∷ ps) i (suc p) o d h found within inside =
    let behind : class_at classes 0 ≤ i = omega (arith, start_of-suc classes p) in
    let later : StandsAt ps (i - class_at classes 0) p o d = stands_at (later_classes classes) ps (i - class_at classes 0) p o d h.1 (omega (
      arith,
      start_of-suc classes p,
    )) (omega (arith, class_at-suc classes p)) (omega (arith, behind, h.0, length-append (words_of q) (words_of_all ps))) in
    record {
      inside = omega (arith, later.inside);
      within = later.within;
      word = get_or-append_right (words_of q) (words_of_all ps) (class_at classes 0) i 0 h.0 behind ∙ later.word;
    }

-- the place that the table tells lies in a piece that is there
pub is_inside : (classes : List ℕ) (ps : List Piece) (i p o : ℕ) → HaveClasses classes ps → start_of classes p + o ≡ i → o < class_at classes p →
    i < length (words_of_all ps) → p < length ps
is_inside classes [] i p o h found within inside = absurd (omega arith)
is_inside classes (q ∷ ps) i p o h found within inside = (stands_at classes (q ∷ ps) i p o q h found within inside).inside

-- what putting a word into the place `i` leaves: pieces of the same classes, with the word there
pub record IsPut (classes : List ℕ) (old new : List Piece) (i w : ℕ) : Type 0 where
  pub kept : HaveClasses classes new
  pub put : words_of_all new ≡ set (words_of_all old) i w

-- a word that is put into a piece, at the place that the table tells, is put into the words of all
pub is_put : (classes : List ℕ) (ps : List Piece) (i p o w : ℕ) (q d : Piece) → HaveClasses classes ps → start_of classes p + o ≡ i →
    o < class_at classes p → i < length (words_of_all ps) → words_of q ≡ set (words_of (get_or ps p d)) o w → IsPut classes ps (set ps p q) i w
is_put classes [] i p o w q d h found within inside is = absurd (omega arith)
is_put classes (first ∷ ps) i zero o w q d h found within inside is =
    let same : o ≡ i = omega (arith, start_of-zero classes) in
    let short : i < length (words_of first) = omega (arith, h.0) in
    record {
      kept = (ap length is ∙ length-set (words_of first) o w ∙ h.0, h.1);
      put = ap (λ l. l ++ words_of_all ps) (is ∙ ap (λ k. set (words_of first) k w) same) ∙ sym (set-append_left (words_of first) (words_of_all ps) i w short);
    }
is_put classes (first ∷ ps) i (suc p) o w q d h found within inside is =
    let behind : class_at classes 0 ≤ i = omega (arith, start_of-suc classes p) in
    let later : IsPut (later_classes classes) ps (set ps p q) (i - class_at classes 0) w =
    is_put (later_classes classes) ps (i - class_at classes 0) p o w q d h.1 (omega (arith, start_of-suc classes p)) (omega (
      arith,
      class_at-suc classes p,
    )) (omega (arith, behind, h.0, length-append (words_of first) (words_of_all ps))) is in
    record {
      kept = (h.0, later.kept);
      put = ap (λ l. words_of first ++ l) later.put ∙ sym (set-append_right (words_of first) (words_of_all ps) (class_at classes 0) i w h.0 behind);
    }

-- pieces with one more of the next class have the classes of the table
pub have_classes-more : (classes : List ℕ) (ps : List Piece) (q : Piece) → HaveClasses classes ps → length (words_of q) ≡ class_at classes (length ps) →
    HaveClasses classes (ps ++ q ∷ [])
have_classes-more classes [] q h class = (class, tt)
have_classes-more classes (first ∷ ps) q h class = (h.0, have_classes-more (later_classes classes) ps q h.1 (class ∙ class_at-suc classes (length ps)))
