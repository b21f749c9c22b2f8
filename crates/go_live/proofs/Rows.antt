-- Positions in a row behind others, and the entries that stand there.
use Rattle.std.proofs.Common.{◌≡◌, ℕ, zero, suc, ◌+◌, ◌<◌, ◌≤◌, List, [], ◌∷◌, ◌++◌, length, map, refl, ap, ◌∙◌, arith}
use Rattle.std.specs.Prelude.{All}
use Rattle.std.proofs.lemmas.List.{map-append}
use Rattle.std.proofs.lemmas.List.Elements.{All-append, All-cons, All-nil, All-weaker}
use Rattle.go_word.specs.declared.edge.Edge.{Edge}
use Rattle.go_api.specs.Alone.{positions}
use Rattle.go_api.specs.Laid.{Rises}
use Rattle.go_core.specs.declared.entry.Entry.{Entry}
use Rattle.go_core.specs.View.{numbered}
use Rattle.go_live.specs.Standings.{edges_of, positions_of}

-- all but the first of some numbers have what all have
tail_all : (Q : Entry → Type 0) (x : Entry) (xs : List Entry) → All Q (x ∷ xs) → All Q xs
tail_all Q x xs all = λ k d within. all (suc k) d (omega arith)

tail_below : (n p : ℕ) (own : List ℕ) → All (λ q. q < n) (p ∷ own) → All (λ q. q < n) own
tail_below n p own all = λ k d within. all (suc k) d (omega arith)

-- positions in a row rise, and are below the one behind them
pub rises_row : (first n count : ℕ) → first ≤ n → Rises first (positions n count)
rises_row first n zero le = tt
rises_row first n (suc count) le = (le, rises_row (n + 1) (n + 1) count (omega arith))

pub below_row : (n count : ℕ) → All (λ p. p < n + count) (positions n count)
below_row n zero = All-nil (λ p. p < n + zero)
below_row n (suc count) =
    All-cons (λ p. p < n + suc count) n (positions (n + 1) count) (omega arith)
    (All-weaker (λ p. p < (n + 1) + count) (λ p. p < n + suc count) (λ p less. omega arith) (positions (n + 1) count) (below_row (n + 1) count))

-- and they rise behind others that do
pub rises_behind : (first next n count : ℕ) (own : List ℕ) → first ≤ next → Rises first own → All (λ p. p < next) own → next ≤ n
    → Rises first (own ++ positions n count)
rises_behind first next n count [] le rises before behind = rises_row first n count (omega arith)
rises_behind first next n count (p ∷ own) le rises before behind =
    let here : p < next = before 0 p (omega arith) in
    (rises.0, rises_behind (p + 1) next n count own (omega arith) rises.1 (tail_below next p own before) behind)

-- all are below the one behind the row
pub below_behind : (next n count : ℕ) (own : List ℕ) → All (λ p. p < next) own → next ≤ n → All (λ p. p < n + count) (own ++ positions n count)
below_behind next n count own before behind =
    All-append (λ p. p < n + count) own (positions n count) (All-weaker (λ p. p < next) (λ p. p < n + count) (λ p less. omega arith) own before)
    (below_row n count)

-- where numbered entries stand, and what they are
positions_numbered : (n : ℕ) (es : List Edge) → positions_of (numbered n es) ≡ positions n (length es)
positions_numbered n [] = refl
positions_numbered n (e ∷ es) = ap (λ ps. n ∷ ps) (positions_numbered (n + 1) es)

edges_numbered : (n : ℕ) (es : List Edge) → edges_of (numbered n es) ≡ es
edges_numbered n [] = refl
edges_numbered n (e ∷ es) = ap (λ xs. e ∷ xs) (edges_numbered (n + 1) es)

pub positions_more : (own : List Entry) (n : ℕ) (es : List Edge) → positions_of (own ++ numbered n es) ≡ positions_of own ++ positions n (length es)
positions_more own n es =
    map-append (λ (x : Entry). x.at) own (numbered n es) ∙ ap (λ (ps : List ℕ). positions_of own ++ ps) (positions_numbered n es)

pub edges_more : (own : List Entry) (n : ℕ) (es : List Edge) → edges_of (own ++ numbered n es) ≡ edges_of own ++ es
edges_more own n es = map-append (λ (x : Entry). x.edge) own (numbered n es) ∙ ap (λ (xs : List Edge). edges_of own ++ xs) (edges_numbered n es)

-- where entries are below a length, so are those of a row at their end
pub row_within : (h n : ℕ) (own : List Entry) (es : List Edge) → 1 ≤ length es → All (λ (x : Entry). x.at < h) (own ++ numbered n es) → n + length es ≤ h
row_within h n (x ∷ own) es some all = row_within h n own es some (tail_all (λ (y : Entry). y.at < h) x (own ++ numbered n es) all)
row_within h n [] [] some all = absurd (omega arith)
row_within h n [] (e ∷ []) some all =
    let here : n < h = all 0 (record { at = n; edge = e }) (omega arith) in
    omega arith
row_within h n [] (e ∷ (next ∷ es)) some all =
    let more : (n + 1) + length (next ∷ es) ≤ h =
    row_within h (n + 1) [] (next ∷ es) (omega arith) (tail_all (λ (y : Entry). y.at < h) (record { at = n; edge = e }) (numbered (n + 1) (next ∷ es)) all)
    in
    omega arith

-- entries whose positions are below a number
pub entries_below : (h : ℕ) (own : List Entry) → All (λ p. p < h) (positions_of own) → All (λ (x : Entry). x.at < h) own
entries_below h [] all = All-nil (λ (x : Entry). x.at < h)
entries_below h (x ∷ own) all =
    All-cons (λ (y : Entry). y.at < h) x own (all 0 x.at (omega arith)) (entries_below h own (tail_below h x.at (positions_of own) all))

-- where all positions of a row are below a length, so is its end
pub row_ends : (h n count : ℕ) → 1 ≤ count → All (λ p. p < h) (positions n count) → n + count ≤ h
row_ends h n zero some all = absurd (omega arith)
row_ends h n (suc zero) some all =
    let here : n < h = all 0 n (omega arith) in
    omega arith
row_ends h n (suc (suc count)) some all =
    let more : (n + 1) + suc count ≤ h = row_ends h (n + 1) (suc count) (omega arith) (tail_below h n (positions (n + 1) (suc count)) all) in
    omega arith
