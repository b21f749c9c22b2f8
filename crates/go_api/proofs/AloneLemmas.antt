-- A session that writes behind a log alone: its entries lie there one after another.
use Rattle.std.proofs.Common.{◌≡◌, ℕ, zero, suc, ◌+◌, ◌<◌, ◌≤◌, ◌==◌, if◌then◌else◌, List, [], ◌∷◌, ◌++◌, length, take, slice_get, Some, count_by, refl, ap}
use Rattle.std.proofs.Common.{arith, sym, subst, ◌∙◌, inl, inr, length-append, append_assoc, drop, take-append-drop, add-one, zero-add, drop-cons}
use Rattle.std.proofs.lemmas.Bool.Decides.{nat_tests, eqb_tells, leb_tells}
use Rattle.std.proofs.Math.Seq.{take-append_seam}
use Rattle.std.proofs.lemmas.List.{drop_all}
use Rattle.std.proofs.lemmas.Option.{slice_get_within, get_or_from_slice_get}
use Rattle.std.proofs.lemmas.List.Sums.{sum_by-cons}
use Rattle.std.proofs.lemmas.List.Elements.{All-from_recursion}
use Rattle.std.specs.List.{All, AllByRecursion}
use Rattle.go_word.specs.declared.edge.Edge.{Edge}
use Rattle.go_api.specs.Alone.{positions}
use Rattle.go_api.specs.Laid.{Rises, HasPuts, times_owned, Laid, IsWhole}

pub length-positions : (first count : ℕ) → length (positions first count) ≡ count
length-positions first zero = refl
length-positions first (suc count) = ap (λ n. suc n) (length-positions (first + 1) count)

-- the element at the seam
slice_get_seam : (old : List Edge) (e : Edge) (puts : List Edge) → slice_get (old ++ e ∷ puts) (length old) ≡ Some e
slice_get_seam [] e puts = refl
slice_get_seam (x ∷ old) e puts = slice_get_seam old e puts

-- each position in turn
pub slice_get-positions : (first count k : ℕ) → k < count → slice_get (positions first count) k ≡ Some (first + k)
slice_get-positions first zero k within = absurd (omega arith)
slice_get-positions first (suc count) zero within = ap (λ n. Some n) (omega arith)
slice_get-positions first (suc count) (suc k) within =
    slice_get-positions (first + 1) count k (omega arith) ∙ ap (λ n. Some n) (omega arith)

-- the first positions
pub take-positions : (first count k : ℕ) → k ≤ count → take k (positions first count) ≡ positions first k
take-positions first count zero within = refl
take-positions first zero (suc k) within = absurd (omega arith)
take-positions first (suc count) (suc k) within = ap (λ l. first ∷ l) (take-positions (first + 1) count k (omega arith))

-- how often a position stands in a list: whether it is the first one, and among the others
pub count_cons : (p x : ℕ) (own : List ℕ) → count_by (λ q. q == p) (x ∷ own) ≡ (if x == p then 1 else 0) + count_by (λ q. q == p) own
count_cons p x own = sum_by-cons (λ (q : ℕ). if q == p then 1 else 0) x own

-- a position in front of the first isn't there
positions_before : (p first count : ℕ) → p < first → count_by (λ q. q == p) (positions first count) ≡ 0
positions_before p first zero before = refl
positions_before p first (suc count) before =
    let rest = positions_before p (first + 1) count (omega arith) in
    grind (arith, nat_tests, rest)

-- each other position stands there once
positions_once : (p first count : ℕ) → first ≤ p → p < first + count → count_by (λ q. q == p) (positions first count) ≡ 1
positions_once p first zero from within = absurd (omega arith)
positions_once p first (suc count) from within =
    let step = count_cons p first (positions (first + 1) count) in
    elim (eqb_tells first p) [
      | inl h ↦
          let rest = positions_before p (first + 1) count (omega arith) in
          step ∙ rw (h.0, rest) refl
      | inr h ↦
          let rest = positions_once p (first + 1) count (omega (arith, h.1)) (omega arith) in
          step ∙ rw (h.0, rest) refl
    ]

-- they rise
pub positions_rise : (first count : ℕ) → Rises first (positions first count)
positions_rise first zero = tt
positions_rise first (suc count) = (omega arith, positions_rise (first + 1) count)

-- one position more
positions_more : (first count : ℕ) → positions first (suc count) ≡ positions first count ++ (first + count) ∷ []
positions_more first zero = ap (λ n. n ∷ []) (omega arith)
positions_more first (suc count) =
    let last : (first + 1) + count ≡ first + suc count = omega arith in
    ap (λ l. first ∷ l) (positions_more (first + 1) count ∙ ap (λ n. positions (first + 1) count ++ n ∷ []) last)

pub positions-push : (first count : ℕ) → positions first (count + 1) ≡ positions first count ++ (first + count) ∷ []
positions-push first count = ap (positions first) (add-one count) ∙ positions_more first count

-- they lie below their end
pub positions_below : (first count n : ℕ) → first + count ≤ n → All (λ p. p < n) (positions first count)
positions_below first count n end = All-from_recursion (λ p. p < n) (positions first count) (each first count n end) where
  each : (first count n : ℕ) → first + count ≤ n → AllByRecursion (λ p. p < n) (positions first count)
  each first zero n end = tt
  each first (suc count) n end = (omega arith, each (first + 1) count n (omega arith))

-- the log has the puts at their positions
has_puts : (old puts : List Edge) → HasPuts (old ++ puts) (positions (length old) (length puts)) puts
has_puts old [] = tt
has_puts old (e ∷ puts) =
    let longer : (old ++ e ∷ []) ++ puts ≡ old ++ e ∷ puts = append_assoc old (e ∷ []) puts in
    let len : length (old ++ e ∷ []) ≡ length old + 1 = length-append old (e ∷ []) in (
      slice_get_seam old e puts,
      subst (λ (n : ℕ). HasPuts (old ++ e ∷ puts) (positions n (length puts)) puts) len
          (subst (λ (log : List Edge). HasPuts log (positions (length (old ++ e ∷ [])) (length puts)) puts) longer (has_puts (old ++ e ∷ []) puts)),
    )

-- what one session alone puts lies behind the old log
pub Laid_alone : (old puts : List Edge) → Laid old (old ++ puts) (positions (length old) (length puts) ∷ []) (puts ∷ [])
Laid_alone old puts = record {
  begins = take-append_seam old puts;
  rising = (positions_rise (length old) (length puts), tt);
  once = λ p from within.
      let total : p < length old + length puts = omega (arith, length-append old puts) in
      rw (positions_once p (length old) (length puts) from total) refl;
  placed = (has_puts old puts, tt);
}

-- a rising list has no position in front of its first one
pub rises_before : (own : List ℕ) (first p : ℕ) → Rises first own → p < first → count_by (λ q. q == p) own ≡ 0
rises_before [] first p rises before = refl
rises_before (x ∷ own) first p rises before =
    let step = count_cons p x own in
    let from = rises.0 in
    let rest = rises_before own (x + 1) p rises.1 (omega (arith, from)) in
    elim (eqb_tells x p) [
      | inl h ↦ absurd (omega (arith, from, h.1))
      | inr h ↦ step ∙ rw (h.0, rest) refl
    ]

-- where the first position is there, it comes first
first_is_here : (x : ℕ) (own : List ℕ) (first : ℕ) → first ≤ x → Rises (x + 1) own → count_by (λ q. q == first) (x ∷ own) ≡ 1 → x ≡ first
first_is_here x own first from rises once =
    elim (leb_tells (suc first) x) [
      | inl h ↦
          let none = rises_before (x ∷ own) x first (omega arith, rises) h.1 in
          absurd (omega (arith, none))
      | inr h ↦ omega arith
    ]

-- a position behind the first one stands among the others
once_behind : (x : ℕ) (own : List ℕ) (p : ℕ) → x + 1 ≤ p → count_by (λ q. q == p) (x ∷ own) ≡ 1 → count_by (λ q. q == p) own ≡ 1
once_behind x own p above once =
    let step = count_cons p x own in
    elim (eqb_tells x p) [
      | inl h ↦ absurd (omega (arith, h.1))
      | inr h ↦ let same : count_by (λ q. q == p) (x ∷ own) ≡ count_by (λ q. q == p) own = step
          ∙ rw h.0 (zero-add (count_by (λ q. q == p) own)) in sym same ∙ once
    ]

-- how often one session alone owns a position
once_alone : (p : ℕ) (own : List ℕ) → times_owned p (own ∷ []) ≡ 1 → count_by (λ q. q == p) own ≡ 1
once_alone p own once =
    let step = sum_by-cons (λ (list : List ℕ). count_by (λ q. q == p) list) own [] in
    omega (arith, step, once)

-- an element, and what lies behind it
pub drop_at : (log : List Edge) (k : ℕ) (e : Edge) → slice_get log k ≡ Some e → drop k log ≡ e ∷ drop (k + 1) log
drop_at log k e here =
    let within = slice_get_within log k e here in
    rw (add-one, drop-cons log k e) (ap (λ (x : Edge). x ∷ drop (suc k) log) (get_or_from_slice_get log k e e here))

-- rising positions that leave none out are one after another, and what they have is the rest of the log
consecutive : (log : List Edge) (own : List ℕ) (puts : List Edge) (first : ℕ) → Rises first own → HasPuts log own puts →
    ((p : ℕ) → first ≤ p → p < length log → count_by (λ q. q == p) own ≡ 1) → length own ≡ length puts → drop first log ≡ puts
consecutive log [] [] first rises placed once whole =
    elim (leb_tells (suc first) (length log)) [
      | inl h ↦ absurd (omega (arith, once first (omega arith) h.1))
      | inr h ↦ drop_all first log (omega arith)
    ]
consecutive log [] (e ∷ puts) first rises placed once whole = absurd (omega arith)
consecutive log (x ∷ own) [] first rises placed once whole = absurd placed
consecutive log (x ∷ own) (e ∷ puts) first rises placed once whole =
    let from : first ≤ x = rises.0 in
    let within : x < length log = slice_get_within log x e placed.0 in
    let here : x ≡ first = first_is_here x own first from rises.1 (once first (omega arith) (omega arith)) in
    let rest : drop (x + 1) log ≡ puts = consecutive log own puts (x + 1) rises.1 placed.1
    (λ p above below. once_behind x own p above (once p (omega arith) below)) (omega arith) in
    subst (λ (n : ℕ). drop n log ≡ e ∷ puts) here (drop_at log x e placed.0 ∙ ap (λ l. e ∷ l) rest)

-- where one session's entries are whole, the log is the old one and they behind it
pub log_alone : (old log puts : List Edge) (own : List ℕ) → Laid old log (own ∷ []) (puts ∷ []) → IsWhole (own ∷ []) (puts ∷ []) → log ≡ old ++ puts
log_alone old log puts own laid whole =
    let rest = consecutive log own puts (length old) laid.rising.0 laid.placed.0 (λ p from within. once_alone p own (laid.once p from within)) whole.0 in
    sym (take-append-drop (length old) log) ∙ rw (laid.begins, rest) refl
