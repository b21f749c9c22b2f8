-- Entries that are stored one after another: those that are left are still owed.
use Rattle.std.proofs.Common.{◌≡◌, ℕ, zero, suc, ◌+◌, ◌<◌, ◌≤◌, ◌≢◌, true, false, List, [], ◌∷◌, length, get_or, drop, sym, refl, ap}
use Rattle.std.proofs.Common.{◌∙◌, ⊎_elim, arith, subst}
use Rattle.std.specs.Prelude.{All, Contains, ◌==◌}
use Rattle.std.proofs.lemmas.Bool.{cases_Bool}
use Rattle.std.proofs.lemmas.Bool.Decides.{nat_tests}
use Rattle.std.proofs.lemmas.List.Elements.{All-nil, All-cons, All-head, All-tail}
use Rattle.go_word.specs.declared.edge.Edge.{Edge}
use Rattle.go_core.specs.declared.entry.Entry.{Entry}
use Rattle.go_core.specs.View.{stands_at, numbered, without}
use Rattle.go_core.proofs.ListLemmas.{without-here, without-other}
use Rattle.go_rule.specs.declared.view.SeatView.{SeatView}
use Rattle.go_ring.specs.Calls.{for_each}

-- an entry at another position stands in a list less one
contains_cons : (x y : Entry) (xs zs : List Entry) → (Contains xs y → Contains zs y) → Contains (x ∷ xs) y → Contains (x ∷ zs) y
contains_cons x y xs zs on h = at h.0 h.1 h.2
  where
    at : (k : ℕ) → k < length (x ∷ xs) → get_or (x ∷ xs) k y ≡ y → Contains (x ∷ zs) y
    at zero less is = (0, omega arith, is)
    at (suc k) less is = let rest = on (k, omega arith, is) in let short = rest.1 in (suc rest.0, omega arith, rest.2)

contains_rest : (p : ℕ) (x y : Entry) (xs : List Entry) → y.at ≢ p → stands_at p x ≡ true → Contains (x ∷ xs) y → Contains xs y
contains_rest p x y xs ne here h = at h.0 h.1 h.2
  where
    same : (a b : ℕ) → (a == b) ≡ true → a ≡ b
    same a b is = grind (arith, nat_tests)

    at : (k : ℕ) → k < length (x ∷ xs) → get_or (x ∷ xs) k y ≡ y → Contains xs y
    at zero less is = absurd (ne (sym (ap (λ z. z.at) is) ∙ same x.at p here))
    at (suc k) less is = (k, omega arith, is)

contains_without : (p : ℕ) (xs : List Entry) (y : Entry) → y.at ≢ p → Contains xs y → Contains (without p xs) y
contains_without p [] y ne h = let less = h.1 in absurd (omega arith)
contains_without p (x ∷ xs) y ne h =
    let on = contains_without p xs y ne in
    ⊎_elim (λ (here : stands_at p x ≡ true). subst (λ zs. Contains zs y) (sym (without-here p x xs here)) (contains_rest p x y xs ne here h))
    (λ (other : stands_at p x ≡ false).
    subst (λ zs. Contains zs y) (sym (without-other p x xs other)) (contains_cons x y xs (without p xs) on h)) (cases_Bool (stands_at p x))

-- so do entries at later positions
all_without : (p : ℕ) (pending ys : List Entry) → All (λ (y : Entry). p < y.at) ys → All (Contains pending) ys → All (Contains (without p pending)) ys
all_without p pending [] later all = All-nil (Contains (without p pending))
all_without p pending (y ∷ ys) later all =
    let after : p < y.at = All-head (λ (z : Entry). p < z.at) y ys later in
    All-cons (Contains (without p pending)) y ys
    (contains_without p pending y (λ e. omega arith) (All-head (Contains pending) y ys all))
    (all_without p pending ys (All-tail (λ (z : Entry). p < z.at) y ys later) (All-tail (Contains pending) y ys all))

-- entries from a position on stand after each one below it
numbered_later : (q p : ℕ) (es : List Edge) → q < p → All (λ (y : Entry). q < y.at) (numbered p es)
numbered_later q p [] less = All-nil (λ (y : Entry). q < y.at)
numbered_later q p (e ∷ es) less =
    All-cons (λ (y : Entry). q < y.at) (record { at = p; edge = e }) (numbered (p + 1) es) less (numbered_later q (p + 1) es (omega arith))

-- what is left of the edges from a place on
drop_next : (n : ℕ) (es : List Edge) (e : Edge) → n < length es → get_or es n e ≡ e → drop n es ≡ e ∷ drop (suc n) es
drop_next n [] e less is = absurd (omega arith)
drop_next zero (x ∷ xs) e less is = ap (λ z. z ∷ xs) is
drop_next (suc n) (x ∷ xs) e less is = drop_next n xs e (omega arith) is

drop_none : (n : ℕ) (es : List Edge) → length es ≤ n → drop n es ≡ []
drop_none zero [] over = refl
drop_none (suc n) [] over = refl
drop_none zero (x ∷ xs) over = absurd (omega arith)
drop_none (suc n) (x ∷ xs) over = drop_none n xs (omega arith)

-- of the edges from a position on so many are done, and the others are still owed
pub record Doing {P : Type 0} (step : Entry → SeatView P → SeatView P) (Q : SeatView P → Type 0) (first : ℕ) (edges : List Edge) (start now : SeatView P)
    (done : ℕ) : Type 0 where
  pub owed : All (Contains now.core.pending) (numbered (first + done) (drop done edges))
  pub left : for_each step (numbered (first + done) (drop done edges)) now ≡ for_each step (numbered first edges) start
  pub holds : Q now

-- by a step that takes an entry from those that are owed, and keeps a fact
module _ {P : Type 0} (step : Entry → SeatView P → SeatView P) (takes : (x : Entry) (d : SeatView P) → (step x d).core.pending ≡ without x.at d.core.pending)
    (Q : SeatView P → Type 0) (keeps : (x : Entry) (d : SeatView P) → Q d → Q (step x d)) (first : ℕ) (edges : List Edge) (start : SeatView P) where
  pub doing_begins : All (Contains start.core.pending) (numbered first edges) → Q start → Doing step Q first edges start start 0
  doing_begins owed holds =
      let same : first ≡ first + 0 = omega arith in
      record {
        owed = subst (λ p. All (Contains start.core.pending) (numbered p edges)) same owed;
        left = ap (λ p. for_each step (numbered p edges) start) (sym same);
        holds = holds;
      }

  -- the next one is owed
  pub doing_owes : (now : SeatView P) (done : ℕ) (e : Edge) → done < length edges → get_or edges done e ≡ e → Doing step Q first edges start now done
      → Contains now.core.pending (record { at = first + done; edge = e })
  doing_owes now done e less is s =
      All-head (Contains now.core.pending) (record { at = first + done; edge = e }) (numbered (first + done + 1) (drop (suc done) edges))
      (subst (λ es. All (Contains now.core.pending) (numbered (first + done) es)) (drop_next done edges e less is) s.owed)

  pub doing_next : (now : SeatView P) (done : ℕ) (e : Edge) → done < length edges → get_or edges done e ≡ e → Doing step Q first edges start now done
      → Doing step Q first edges start (step (record { at = first + done; edge = e }) now) (done + 1)
  doing_next now done e less is s =
      let p : ℕ = first + done in
      let x : Entry = record { at = p; edge = e } in
      let rest = drop (suc done) edges in
      let next = drop_next done edges e less is in
      let all : All (Contains now.core.pending) (x ∷ numbered (p + 1) rest) = subst (λ es. All (Contains now.core.pending) (numbered p es)) next s.owed in
      let same : p + 1 ≡ first + (done + 1) = omega arith in
      let count : suc done ≡ done + 1 = omega arith in
      record {
        owed = subst (λ ps. All (Contains ps) (numbered (first + (done + 1)) (drop (done + 1) edges))) (sym (takes x now))
            (subst (λ n. All (Contains (without p now.core.pending)) (numbered (first + (done + 1)) (drop n edges))) count
            (subst (λ q. All (Contains (without p now.core.pending)) (numbered q rest)) same
            (all_without p now.core.pending (numbered (p + 1) rest) (numbered_later p (p + 1) rest (omega arith))
            (All-tail (Contains now.core.pending) x (numbered (p + 1) rest) all))));
        left = ap (λ n. for_each step (numbered (first + (done + 1)) (drop n edges)) (step x now)) (sym count)
            ∙ ap (λ q. for_each step (numbered q rest) (step x now)) (sym same)
            ∙ sym (ap (λ es. for_each step (numbered p es) now) next) ∙ s.left;
        holds = keeps x now s.holds;
      }

-- all were done
pub doing_ends : {P : Type 0} (step : Entry → SeatView P → SeatView P) (Q : SeatView P → Type 0) (first : ℕ) (edges : List Edge) (start now : SeatView P)
    (done : ℕ) → length edges ≤ done → Doing step Q first edges start now done → now ≡ for_each step (numbered first edges) start
doing_ends step Q first edges start now done over s =
    sym (ap (λ es. for_each step (numbered (first + done) es) now) (drop_none done edges over)) ∙ s.left

-- a store leaves the fronts that the seat knows
abbrev pub SameFronts : {P : Type 0} → SeatView P → SeatView P → Type 0
SameFronts start d = (d.core.live ≡ start.core.live) × (d.core.archived ≡ start.core.archived) × (d.core.durable ≡ start.core.durable)

-- giving an entry up leaves that the seat saw the flag raised
abbrev pub SameFlag : {P : Type 0} → SeatView P → SeatView P → Type 0
SameFlag start d = (d.core.live ≡ start.core.live) × (d.told.flagged ≡ start.told.flagged)
