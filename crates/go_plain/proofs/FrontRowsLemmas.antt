-- Lemmas on the rows of a front: over a longer log, and with one row more.
use Rattle.std.proofs.Common.{◌≡◌, ◌⊎◌, ℕ, ◌+◌, ◌<◌, ◌≤◌, ◌^◌, subst, Option, None, Some, List, [], ◌∷◌, ◌++◌, length, take, get_or, ap, arith, sym, ◌∙◌, inl, inr, length-append}
use Rattle.std.specs.Prelude.{MatchOption, IfSome}
use Rattle.std.proofs.lemmas.List.{take-append-le, get_or_append_left}
use Rattle.std.proofs.Math.Seq.{get_or-append_seam}
use Rattle.std.proofs.lemmas.Bool.Decides.{leb_tells}
use Rattle.go_word.specs.declared.edge.Edge.{Edge}
use Rattle.go_word.specs.Neighbours.{neighbours}
use Rattle.go_rows.specs.Rows.{IsRow}
use Rattle.go_plain.specs.FrontRows.{RowsState, AreRowsOf, MayTakeRow}
use Rattle.go_plain.proofs.ShortLemmas.{neighbours_short}

-- no rows
pub rows_none : (log : List Edge) (front : ℕ) → front ≤ length log → AreRowsOf log (record { front = front; rows = [] })
rows_none log front within = record { within = within; each = λ v there. absurd (omega (arith, there)) }

pub rows_new : (log : List Edge) (held : RowsState) → held ≡ record { front = 0; rows = [] } → AreRowsOf log held
rows_new log held is = rw is (rows_none log 0 (omega arith))

-- a row that was found has the neighbours of its vertex
pub row_found : {B : Type 0} (X : Type 0) (now : B → List ℕ) (log : List Edge) (held : RowsState) (front v : ℕ) (found : Option B) → AreRowsOf log held →
    MatchOption found X (λ row. (held.front ≡ front) × IsRow held.rows v (now row)) → IfSome found (λ row. now row ≡ neighbours (take front log) v)
row_found X now log held front v None are told = tt
row_found X now log held front v (Some row) are told =
    told.1.is ∙ are.each v told.1.there ∙ ap (λ (n : ℕ). neighbours (take n log) v) told.0

-- and is short
pub row_short : {B : Type 0} (now : B → List ℕ) (log : List Edge) (front v : ℕ) (found : Option B) → length log < 2 ^ 32 →
    IfSome found (λ row. now row ≡ neighbours (take front log) v) → IfSome found (λ row. length (now row) < 2 ^ 32)
row_short now log front v None short is = tt
row_short now log front v (Some row) short is = rw is (neighbours_short log front v short)

-- a log that goes on has the rows that it had
pub rows_longer : (log more : List Edge) (held : RowsState) → AreRowsOf log held → AreRowsOf (log ++ more) held
rows_longer log more held are = record {
  within = omega (arith, are.within, length-append log more);
  each = λ v there. are.each v there ∙ ap (λ (l : List Edge). neighbours l v) (sym (take-append-le held.front log more are.within));
}

-- the row of the next vertex
pub rows_more : (log : List Edge) (front : ℕ) (rows : List (List ℕ)) (row : List ℕ) → AreRowsOf log (record { front = front; rows = rows }) →
    row ≡ neighbours (take front log) (length rows) → AreRowsOf log (record { front = front; rows = rows ++ row ∷ [] })
rows_more log front rows row are is = record { within = are.within; each = at } where
  at : (v : ℕ) → v < length (rows ++ row ∷ []) → get_or (rows ++ row ∷ []) v [] ≡ neighbours (take front log) v
  at v there = elim (leb_tells (v + 1) (length rows)) [
    | inl h ↦ get_or_append_left rows (row ∷ []) [] v (omega (arith, h.1)) ∙ are.each v (omega (arith, h.1))
    | inr h ↦
        let last : v ≡ length rows = omega (arith, h.1, there, length-append rows (row ∷ [])) in
        ap (λ (n : ℕ). get_or (rows ++ row ∷ []) n []) last ∙ get_or-append_seam rows row [] [] ∙ is ∙ ap (neighbours (take front log)) (sym last)
  ]

-- and so a row that was taken over
pub rows_taken : (log : List Edge) (front v : ℕ) (row : List ℕ) (old new : RowsState) → AreRowsOf log old → front ≤ length log →
    row ≡ neighbours (take front log) v → MayTakeRow front v row old new → AreRowsOf log new
rows_taken log front v row old new are within is (inl same) = subst (AreRowsOf log) (sym same) are
rows_taken log front v row old new are within is (inr took) =
    subst (AreRowsOf log) (sym took.taken) (rows_more log front old.rows row (of took.same) (is ∙ ap (neighbours (take front log)) took.next)) where
      of : (old.rows ≡ []) ⊎ (old.front ≡ front) → AreRowsOf log (record { front = front; rows = old.rows })
      of (inl none) = subst (λ (l : List (List ℕ)). AreRowsOf log (record { front = front; rows = l })) (sym none) (rows_none log front within)
      of (inr here) = subst (λ (n : ℕ). AreRowsOf log (record { front = n; rows = old.rows })) here are
