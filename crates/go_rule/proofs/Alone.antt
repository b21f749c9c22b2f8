-- What a seat with the whole lot knows: the others take no part any more, so all that is counted over the views is its own.
use Rattle.std.proofs.Common.{◌≡◌, ℕ, zero, suc, ◌+◌, ◌^◌, ◌≤◌, ◌≢◌, true, false, List, [], ◌∷◌, length, sym, refl, ap, ◌∙◌, ⊎_elim, arith}
use Rattle.std.specs.Prelude.{sum_by, Option as Maybe}
use Rattle.std.proofs.lemmas.Bool.{cases_Bool}
use Rattle.std.proofs.lemmas.List.Sums.{sum_by-cons}
use mathlib.Core.Option.{some, some-injective, some-ne-none}
use lib.ListN.{get_elem?}
use Rattle.atomic_table.specs.Table.{State}
use Rattle.go_word.specs.declared.edge.Edge.{Edge}
use Rattle.go_core.specs.declared.view.View.{View}
use Rattle.go_core.specs.View.{stands, spent}
use Rattle.go_core.proofs.Totals.{terms-le}
use Rattle.go_core.proofs.Holdings.{held_all}
use Rattle.go_rule.specs.declared.layout.Key.{Key}
use Rattle.go_rule.specs.declared.view.SeatView.{SeatView}
use Rattle.go_rule.specs.Meaning.{Meaning, IsLasting}
use Rattle.go_rule.specs.Views.{frame_of, entries_of, spent_view}
use Rattle.go_rule.specs.Rule.{cores, IsRuledBy}
use Rattle.go_rule.proofs.Beside.{core_there}

-- a sum in which one term alone counts
pub total_only : {A : Type 0} (f : A → ℕ) (xs : List A) (i : ℕ) (a : A) → get_elem? xs i ≡ some a →
    ((j : ℕ) (b : A) → j ≢ i → get_elem? xs j ≡ some b → f b ≡ 0) → sum_by f xs ≡ f a
total_only f [] i a there none = absurd (some-ne-none a (sym there))
total_only f (x ∷ xs) zero a there none =
    let same : f x ≡ f a = ap f (some-injective x a there) in
    let rest : sum_by f xs ≡ 0 = nothing f xs (λ j b at_j. none (suc j) b (λ e. omega arith) at_j) in
    omega (arith, sum_by-cons f x xs)
  where
    nothing : {A : Type 0} (f : A → ℕ) (xs : List A) → ((j : ℕ) (b : A) → get_elem? xs j ≡ some b → f b ≡ 0) → sum_by f xs ≡ 0
    nothing f [] none = refl
    nothing f (y ∷ ys) none =
        let first = none 0 y refl in
        let rest = nothing f ys (λ j b at_j. none (suc j) b at_j) in
        omega (arith, sum_by-cons f y ys)
total_only f (x ∷ xs) (suc i) a there none =
    let first : f x ≡ 0 = none 0 x (λ e. omega arith) refl in
    let rest = total_only f xs i a there (λ j b ne at_j. none (suc j) b (λ e. ne (omega arith)) at_j) in
    omega (arith, sum_by-cons f x xs)

module _ {P : Type 0} (m : Meaning P) (laws : IsLasting m) (key : Key P) where
  module _ (s : State (Maybe P) (SeatView P)) (log : List Edge) (parts : List P) (by : IsRuledBy m key s log parts) (i : ℕ) (d : SeatView P)
      (there : get_elem? s.views i ≡ some d) where
    -- with the whole lot every other seat was joined in
    pub alone : d.share.lot ≡ 2 ^ 32 → (j : ℕ) (u : SeatView P) → j ≢ i → get_elem? s.views j ≡ some u → u ≡ spent_view
    alone whole j u ne at_j =
        let seat = by.seats j u at_j in
        let all = by.shared.lots in
        let both : d.share.lot + u.share.lot ≤ sum_by (λ (z : SeatView P). z.share.lot) s.views =
        terms-le (λ (z : SeatView P). z.share.lot) s.views i j d u ne there at_j in
        ⊎_elim (λ (live : u.core.live ≡ true). let some' = seat.lot live in
        absurd (omega arith)) (λ (dead : u.core.live ≡ false). seat.ended dead) (cases_Bool u.core.live)

    -- so a count over the core views is its own
    pub only_core : (g : View → ℕ) → g spent ≡ 0 → d.share.lot ≡ 2 ^ 32 → sum_by g (cores s.views) ≡ g d.core
    only_core g none whole =
        total_only g (cores s.views) i d.core (core_there m laws key s log parts by i d there)
        (λ j v ne at_j.
        (let found = core_of s.views j v at_j in
        let gone = alone whole j found.0 ne found.1 in
        sym (ap g found.2) ∙ ap (λ (z : SeatView P). g z.core) gone ∙ none))
      where
        core_of : (views : List (SeatView P)) (j : ℕ) (v : View) → get_elem? (cores views) j ≡ some v →
            (u : SeatView P) × (get_elem? views j ≡ some u) × (u.core ≡ v)
        core_of [] j v at_j = absurd (some-ne-none v (sym at_j))
        core_of (x ∷ xs) zero v at_j = (x, refl, some-injective x.core v at_j)
        core_of (x ∷ xs) (suc j) v at_j = core_of xs j v at_j

    -- and the log holds no entry past the first position that isn't its own
    pub whole_log : d.share.lot ≡ 2 ^ 32 → length log ≡ key.first + entries_of d.core
    whole_log whole =
        let archived = by.tied.ringed.archived in
        let from = archived.from in
        let to = archived.to in
        held_all (frame_of key) log s.words (cores s.views) d.core (omega arith) (λ p. only_core (stands p) refl whole) by.tied
