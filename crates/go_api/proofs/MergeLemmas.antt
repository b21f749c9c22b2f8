-- What lies behind an old log is a merge of what the sessions put.
use Rattle.std.proofs.Common.{◌≡◌, ℕ, zero, suc, ◌+◌, ◌<◌, ◌≤◌, ◌==◌, List, [], ◌∷◌, length, slice_get, Some, count_by, refl, ap}
use Rattle.std.proofs.Common.{◌++◌, arith, sym, subst, ◌∙◌, inl, inr, drop, zero-add, take-append-drop}
use Rattle.std.proofs.lemmas.Bool.Decides.{eqb_tells, leb_tells}
use Rattle.std.proofs.lemmas.List.{drop_all}
use Rattle.std.proofs.lemmas.Option.{slice_get_within, same_Some}
use Rattle.std.proofs.lemmas.List.Sums.{sum_by-cons}
use Rattle.std.specs.List.{AllByRecursion}
use Rattle.go_word.specs.declared.edge.Edge.{Edge}
use Rattle.go_api.proofs.AloneLemmas.{count_cons, rises_before, drop_at}
use Rattle.go_api.specs.Laid.{Rises, HasPuts, HasAllPuts, times_owned, Laid, IsWhole}
use Rattle.go_api.specs.Merge.{TakesFirst, IsMerge}

-- how often a position is owned: by the first session, and by the others
owned_cons : (p : ℕ) (own : List ℕ) (owns : List (List ℕ)) → times_owned p (own ∷ owns) ≡ count_by (λ q. q == p) own + times_owned p owns
owned_cons p own owns = sum_by-cons (λ (list : List ℕ). count_by (λ q. q == p) list) own owns

-- a position that comes first in a list stands there once more than behind it
count_here : (p : ℕ) (own : List ℕ) → count_by (λ q. q == p) (p ∷ own) ≡ suc (count_by (λ q. q == p) own)
count_here p own =
    let step = count_cons p p own in
    elim (eqb_tells p p) [
      | inl h ↦ step ∙ rw h.0 (omega arith)
      | inr h ↦ absurd (h.1 refl)
    ]

-- and any other as often as behind it
count_other : (p x : ℕ) (own : List ℕ) → (x ≡ p → ⊥) → count_by (λ q. q == p) (x ∷ own) ≡ count_by (λ q. q == p) own
count_other p x own other =
    let step = count_cons p x own in
    elim (eqb_tells x p) [
      | inl h ↦ absurd (other h.1)
      | inr h ↦ step ∙ rw h.0 (zero-add (count_by (λ q. q == p) own))
    ]

-- positions that rise from a first one that is none of them rise from the next one on
rise_past : (a : ℕ) (own : List ℕ) → Rises a own → count_by (λ q. q == a) own ≡ 0 → Rises (a + 1) own
rise_past a [] rises none = tt
rise_past a (x ∷ own) rises none =
    elim (eqb_tells x a) [
      | inl h ↦ absurd (omega (arith, none, subst (λ (n : ℕ). count_by (λ q. q == n) (x ∷ own) ≡ suc (count_by (λ q. q == n) own)) h.1 (count_here x own)))
      | inr h ↦ (omega (arith, rises.0, h.1), rises.1)
    ]

all_rise_past : (a : ℕ) (owns : List (List ℕ)) → AllByRecursion (Rises a) owns → times_owned a owns ≡ 0 → AllByRecursion (Rises (a + 1)) owns
all_rise_past a [] rising none = tt
all_rise_past a (own ∷ owns) rising none =
    let step = owned_cons a own owns in
    (rise_past a own rising.0 (omega (arith, none, step)), all_rise_past a owns rising.1 (omega (arith, none, step)))

-- what is left to merge from a position on: each session's positions from there on, and what it put at them
record IsLeft (log : List Edge) (a : ℕ) (owns : List (List ℕ)) (puts : List (List Edge)) : Type 0 where
  rising : AllByRecursion (Rises a) owns
  placed : HasAllPuts log owns puts
  whole : IsWhole owns puts

-- the entry at a position that one session owns is the first one of what it has left
record IsTaken (log : List Edge) (a : ℕ) (e : Edge) (owns : List (List ℕ)) (puts : List (List Edge)) : Type 0 where
  owns_left : List (List ℕ)
  puts_left : List (List Edge)
  taken : TakesFirst e puts puts_left
  is_left : IsLeft log (a + 1) owns_left puts_left
  later : (p : ℕ) → a < p → times_owned p owns_left ≡ times_owned p owns

-- without the first session the others have what they have
others_left : (log : List Edge) (a x : ℕ) (y : Edge) (own : List ℕ) (list : List Edge) (owns : List (List ℕ)) (puts : List (List Edge)) →
    IsLeft log a ((x ∷ own) ∷ owns) ((y ∷ list) ∷ puts) → IsLeft log a owns puts
others_left log a x y own list owns puts is = record { rising = is.rising.1; placed = is.placed.1; whole = is.whole.1 }

-- a session whose first position is a later one doesn't own this one
not_in : (log : List Edge) (a x : ℕ) (y : Edge) (own : List ℕ) (list : List Edge) (owns : List (List ℕ)) (puts : List (List Edge)) →
    IsLeft log a ((x ∷ own) ∷ owns) ((y ∷ list) ∷ puts) → (x ≡ a → ⊥) → count_by (λ q. q == a) (x ∷ own) ≡ 0
not_in log a x y own list owns puts is other =
    count_other a x own other ∙ rises_before own (x + 1) a is.rising.0.1 (omega (arith, is.rising.0.0))

-- what a place has is one entry alone
same_entry : (log : List Edge) (a x : ℕ) (e y : Edge) → x ≡ a → slice_get log a ≡ Some e → slice_get log x ≡ Some y → y ≡ e
same_entry log a x e y same here placed = same_Some y e (sym placed ∙ ap (slice_get log) same ∙ here)

-- where the first session owns the position, its first entry is taken
take_here : (log : List Edge) (a : ℕ) (e : Edge) (x : ℕ) (y : Edge) (own : List ℕ) (list : List Edge) (owns : List (List ℕ)) (puts : List (List Edge)) →
    slice_get log a ≡ Some e → IsLeft log a ((x ∷ own) ∷ owns) ((y ∷ list) ∷ puts) → times_owned a ((x ∷ own) ∷ owns) ≡ 1 → x ≡ a →
    IsTaken log a e ((x ∷ own) ∷ owns) ((y ∷ list) ∷ puts)
take_here log a e x y own list owns puts here is once same =
    let counted : count_by (λ q. q == a) (x ∷ own) ≡ suc (count_by (λ q. q == a) own) =
    subst (λ (n : ℕ). count_by (λ q. q == a) (n ∷ own) ≡ suc (count_by (λ q. q == a) own)) (sym same) (count_here a own) in
    let none : times_owned a owns ≡ 0 = omega (arith, once, owned_cons a (x ∷ own) owns, counted) in record {
      owns_left = own ∷ owns;
      puts_left = list ∷ puts;
      taken = inl (list, ap (λ (z : Edge). z ∷ list) (same_entry log a x e y same here is.placed.0.0), refl);
      is_left = record {
        rising = (subst (λ (n : ℕ). Rises (n + 1) own) same is.rising.0.1, all_rise_past a owns is.rising.1 none);
        placed = (is.placed.0.1, is.placed.1);
        whole = (omega (arith, is.whole.0), is.whole.1);
      };
      later = λ p behind. omega (arith, owned_cons p own owns, owned_cons p (x ∷ own) owns, count_other p x own (λ at. omega (arith, at, same, behind)));
    }

-- where it doesn't, it keeps what it has
take_beside : (log : List Edge) (a : ℕ) (e : Edge) (x : ℕ) (y : Edge) (own : List ℕ) (list : List Edge) (owns : List (List ℕ)) (puts : List (List Edge)) →
    IsLeft log a ((x ∷ own) ∷ owns) ((y ∷ list) ∷ puts) → times_owned a ((x ∷ own) ∷ owns) ≡ 1 → (x ≡ a → ⊥) → IsTaken log a e owns puts →
    IsTaken log a e ((x ∷ own) ∷ owns) ((y ∷ list) ∷ puts)
take_beside log a e x y own list owns puts is once other rest = record {
  owns_left = (x ∷ own) ∷ rest.owns_left;
  puts_left = (y ∷ list) ∷ rest.puts_left;
  taken = inr (rest.puts_left, rest.taken, refl);
  is_left = record {
    rising = ((omega (arith, is.rising.0.0, other), is.rising.0.1), rest.is_left.rising);
    placed = (is.placed.0, rest.is_left.placed);
    whole = (is.whole.0, rest.is_left.whole);
  };
  later = λ p behind. omega (arith, rest.later p behind, owned_cons p (x ∷ own) rest.owns_left, owned_cons p (x ∷ own) owns);
}

-- a position that one session owns has the first entry of what that session has left
take_next : (log : List Edge) (a : ℕ) (e : Edge) (owns : List (List ℕ)) (puts : List (List Edge)) → slice_get log a ≡ Some e → IsLeft log a owns puts →
    times_owned a owns ≡ 1 → IsTaken log a e owns puts
take_next log a e [] puts here is once = absurd (omega (arith, once))
take_next log a e (own ∷ owns) [] here is once = absurd is.placed
take_next log a e ([] ∷ owns) (list ∷ puts) here is once =
    let rest = take_next log a e owns puts here (record { rising = is.rising.1; placed = is.placed.1; whole = is.whole.1 })
    (omega (arith, once, owned_cons a [] owns)) in record {
      owns_left = [] ∷ rest.owns_left;
      puts_left = list ∷ rest.puts_left;
      taken = inr (rest.puts_left, rest.taken, refl);
      is_left = record {
        rising = (tt, rest.is_left.rising);
        placed = (tt, rest.is_left.placed);
        whole = (is.whole.0, rest.is_left.whole);
      };
      later = λ p behind. omega (arith, rest.later p behind, owned_cons p [] rest.owns_left, owned_cons p [] owns);
    }
take_next log a e ((x ∷ own) ∷ owns) ([] ∷ puts) here is once = absurd is.placed.0
take_next log a e ((x ∷ own) ∷ owns) ((y ∷ list) ∷ puts) here is once =
    elim (eqb_tells x a) [
      | inl h ↦ take_here log a e x y own list owns puts here is once h.1
      | inr h ↦ take_beside log a e x y own list owns puts is once h.1 (take_next log a e owns puts here (others_left log a x y own list owns puts is)
          (omega (arith, once, owned_cons a (x ∷ own) owns, not_in log a x y own list owns puts is h.1)))
    ]

-- behind the log's end nothing is left
none_left : (log : List Edge) (a : ℕ) (owns : List (List ℕ)) (puts : List (List Edge)) → length log ≤ a → IsLeft log a owns puts → IsMerge puts []
none_left log a [] [] end is = tt
none_left log a [] (list ∷ puts) end is = absurd is.placed
none_left log a (own ∷ owns) [] end is = absurd is.placed
none_left log a ([] ∷ owns) ([] ∷ puts) end is =
    (refl, none_left log a owns puts end (record { rising = is.rising.1; placed = is.placed.1; whole = is.whole.1 }))
none_left log a ([] ∷ owns) ((y ∷ list) ∷ puts) end is = absurd (omega (arith, is.whole.0))
none_left log a ((x ∷ own) ∷ owns) ([] ∷ puts) end is = absurd is.placed.0
none_left log a ((x ∷ own) ∷ owns) ((y ∷ list) ∷ puts) end is =
    absurd (omega (arith, end, is.rising.0.0, slice_get_within log x y is.placed.0.0))

-- what a list has at a place within it
there : (log : List Edge) (k : ℕ) → k < length log → (e : Edge) × (slice_get log k ≡ Some e)
there [] k within = absurd (omega arith)
there (x ∷ log) zero within = (x, refl)
there (x ∷ log) (suc k) within = there log k (omega arith)

-- from a position on the log is a merge of what is left
merged_from : (log : List Edge) (n a : ℕ) (owns : List (List ℕ)) (puts : List (List Edge)) → length log ≤ a + n → IsLeft log a owns puts →
    ((p : ℕ) → a ≤ p → p < length log → times_owned p owns ≡ 1) → IsMerge puts (drop a log)
merged_from log zero a owns puts end is once =
    subst (λ (l : List Edge). IsMerge puts l) (sym (drop_all a log (omega (arith, end)))) (none_left log a owns puts (omega (arith, end)) is)
merged_from log (suc n) a owns puts end is once =
    elim (leb_tells (suc a) (length log)) [
      | inl h ↦
          let found = there log a h.1 in
          let step = take_next log a found.0 owns puts found.1 is (once a (omega arith) h.1) in
          let later : (p : ℕ) → a + 1 ≤ p → p < length log → times_owned p step.owns_left ≡ 1 =
          λ p from below. step.later p (omega (arith, from)) ∙ once p (omega (arith, from)) below in
          subst (λ (l : List Edge). IsMerge puts l) (sym (drop_at log a found.0 found.1))
          (step.puts_left, step.taken, merged_from log n (a + 1) step.owns_left step.puts_left (omega (arith, end)) step.is_left later)
      | inr h ↦ subst (λ (l : List Edge). IsMerge puts l) (sym (drop_all a log (omega (arith, h.1)))) (none_left log a owns puts (omega (arith, h.1)) is)
    ]

-- where all that the sessions put is there, what lies behind the old log is a merge of it
pub merged : (old log : List Edge) (owns : List (List ℕ)) (puts : List (List Edge)) → Laid old log owns puts → IsWhole owns puts →
    IsMerge puts (drop (length old) log)
merged old log owns puts laid whole =
    merged_from log (length log) (length old) owns puts (omega arith)
    (record { rising = laid.rising; placed = laid.placed; whole = whole }) laid.once

-- the log is the old one and what lies behind it
pub begins_with : (old log : List Edge) (owns : List (List ℕ)) (puts : List (List Edge)) → Laid old log owns puts → log ≡ old ++ drop (length old) log
begins_with old log owns puts laid = sym (take-append-drop (length old) log) ∙ ap (λ (l : List Edge). l ++ drop (length old) log) laid.begins
