-- Words that lie together, seen in the lists that they are a part of.
use Rattle.std.proofs.Common.{◌≡◌, ℕ, zero, suc, ◌+◌, ◌-◌, ◌<◌, ◌≤◌, min, List, [], ◌∷◌, ◌++◌, length, get_or, take, drop, sym, ap, ◌∙◌, arith}
use Rattle.std.proofs.Common.{length-take, length-append}
use Rattle.std.proofs.Math.Seq.{take-append_seam, drop-append-add}
use Rattle.std.proofs.lemmas.List.{drop-append-le, drop-take, length-drop, take-take}
use Rattle.go_chunk.specs.declared.classes.Piece.{Piece}
use Rattle.go_chunk.specs.Pieces.{words_of, words_of_all, class_at, start_of, later_classes, HaveClasses}
use Rattle.go_chunk.specs.WordList.{StandFrom}
use Rattle.go_chunk.proofs.PlaceLemmas.{class_at-suc, start_of-suc, start_of-zero}

-- the last words of a first part stand in the whole
pub stand_first : (i : ℕ) (xs ys words : List ℕ) → i < length xs → words ≡ drop i xs → StandFrom (xs ++ ys) i words
stand_first i xs ys words inside is = record {
  some = omega (arith, ap length is, length-drop i xs);
  there = sym (ap (take (length words)) (drop-append-le i xs ys (omega arith) ∙ ap (λ l. l ++ ys) (sym is)) ∙ take-append_seam words ys);
}

-- words that stand in a later part stand in the whole
pub stand_later : (n i : ℕ) (xs ys words : List ℕ) → length xs ≡ n → n ≤ i → StandFrom ys (i - n) words → StandFrom (xs ++ ys) i words
stand_later n i xs ys words long behind h =
    let at : i ≡ length xs + (i - n) = omega (arith, long, behind) in
    record {
      some = h.some;
      there = h.there ∙ ap (take (length words)) (sym (drop-append-add xs ys (i - n)) ∙ ap (λ k. drop k (xs ++ ys)) (sym at));
    }

-- the last words of a piece, from the place on that the table tells, stand in the words of all
pub stand_piece : (classes : List ℕ) (ps : List Piece) (i p o : ℕ) (d : Piece) (words : List ℕ) → HaveClasses classes ps → start_of classes p + o ≡ i →
    o < class_at classes p → i < length (words_of_all ps) → words ≡ drop o (words_of (get_or ps p d)) → StandFrom (words_of_all ps) i words
stand_piece classes [] i p o d words h found within inside is = absurd (omega arith)
stand_piece classes (q ∷ ps) i zero o d words h found within inside is =
    let same : o ≡ i = omega (arith, start_of-zero classes) in
    stand_first i (words_of q) (words_of_all ps) words (omega (arith, h.0)) (is ∙ ap (λ k. drop k (words_of q)) same)
stand_piece classes (q ∷ ps) i (suc p) o d words h found within inside is =
    let behind : class_at classes 0 ≤ i = omega (arith, start_of-suc classes p) in
    stand_later (class_at classes 0) i (words_of q) (words_of_all ps) words h.0 behind
    (stand_piece (later_classes classes) ps (i - class_at classes 0) p o d words h.1 (omega (arith, start_of-suc classes p)) (omega (
      arith,
      class_at-suc classes p,
    )) (omega (arith, behind, h.0, length-append (words_of q) (words_of_all ps))) is)

-- what is seen of a list up to a length, from a place on, up to another place
pub stand_seen : (len from to n : ℕ) (all view words part : List ℕ) → take len all ≡ view → from < to → to ≤ length view → StandFrom all from words →
    n ≡ min (length words) (to - from) → part ≡ take n words → StandFrom view from part
stand_seen len from to n all view words part is order inside h counted cut =
    let long : length part ≡ n = omega (arith, ap length cut, length-take n words, counted) in
    let reach : from + (len - from) ≡ len = omega (arith, order, inside, ap length is, length-take len all) in
    let seen : take n (drop from view) ≡ take n (drop from all) =
    ap (λ l. take n (drop from l)) (sym is ∙ ap (λ k. take k all) (sym reach)) ∙ ap (take n) (drop-take from (len - from) all)
    ∙ take-take n (len - from) (drop from all) (omega (arith, counted, reach, inside, order, ap length is, length-take len all)) in
    record {
      some = omega (arith, long, counted, h.some, order);
      there = cut ∙ ap (take n) h.there ∙ take-take n (length words) (drop from all) (omega (arith, counted)) ∙ sym seen
          ∙ ap (λ k. take k (drop from view)) (sym long);
    }
