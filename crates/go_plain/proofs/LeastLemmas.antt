-- Lemmas on the least front of some views, and on shards that are compacted up to it.
use Rattle.std.proofs.Common.{◌≡◌, ◌⊎◌, ℕ, ◌+◌, ◌<◌, ◌≤◌, List, [], ◌∷◌, ◌++◌, length, take, map, get_or, refl, ap, arith, sym, subst, ◌∙◌, inl, inr}
use Rattle.std.specs.Prelude.{All, Contains, min}
use Rattle.std.proofs.lemmas.Bool.Decides.{leb_tells}
use Rattle.std.proofs.lemmas.List.{take_more}
use Rattle.std.proofs.lemmas.List.Elements.{All-push, All-map, Contains-append_left, Contains-append_right}
use Rattle.go_word.specs.declared.edge.Edge.{Edge}
use Rattle.go_shard.specs.ShardState.{ShardState, Keeps}
use Rattle.go_shard.specs.Parts.{HasPart, HaveParts, CanBeCompacted, CanAllBeCompacted, IsUncut, AllAreCut}
use Rattle.go_plain.specs.Plain.{PlainState, IsCompacted}
use Rattle.go_plain.specs.Seats.{all_views}
use Rattle.go_plain.specs.Views.{IsLeast}

-- one front more
least_push : (bound least x next : ℕ) (fronts : List ℕ) → IsLeast bound fronts least → next ≤ least → next ≤ x → (next ≡ least) ⊎ (next ≡ x) →
    IsLeast bound (fronts ++ x ∷ []) next
least_push bound least x next fronts is le_least le_x which = record {
  within = omega (arith, is.within, le_least);
  below = All-push (λ n. next ≤ n) fronts x (λ k d below. omega (arith, le_least, is.below k d below)) le_x;
  one = one which;
} where
  one : (next ≡ least) ⊎ (next ≡ x) → (next ≡ bound) ⊎ Contains (fronts ++ x ∷ []) next
  one (inr same) = inr (Contains-append_right fronts (x ∷ []) next (0, omega arith, sym same))
  one (inl same) = elim is.one as (λ _. (next ≡ bound) ⊎ Contains (fronts ++ x ∷ []) next) [
    | inl whole ↦ inl (same ∙ whole)
    | inr view ↦ inr (Contains-append_left fronts (x ∷ []) next (subst (Contains fronts) (sym same) view))
  ]

pub least_step : (fronts : List ℕ) (i d bound least next : ℕ) → i < length fronts → IsLeast bound (take i fronts) least →
    next ≡ min least (get_or fronts i d) → IsLeast bound (take (i + 1) fronts) next
least_step fronts i d bound least next within is next_is =
    let x = get_or fronts i d in
    rw (take_more fronts i d within) (least_push bound least x next (take i fronts) is (grind (arith, next_is)) (grind (arith, next_is))
    (which least x next next_is))
  where
    which : (n m r : ℕ) → r ≡ min n m → (r ≡ n) ⊎ (r ≡ m)
    which n m r is = elim (leb_tells n m) as (λ _. (r ≡ n) ⊎ (r ≡ m)) [
      | inl h ↦ inl (grind (arith, is, h.1))
      | inr h ↦ inr (grind (arith, is, h.1))
    ]

-- shards can be compacted up to the least of where they have their parts and of all views
pub can_compact : (v so_many from limit : ℕ) (views : List ℕ) (log : List Edge) (shards : List ShardState) → HaveParts v so_many from views log shards →
    IsLeast from views limit → CanAllBeCompacted limit shards
can_compact v so_many from limit views log shards parts least = record {
  each = λ i d below. one (get_or shards i d) i (parts.each i d (omega (arith, below, parts.count)));
} where
  one : (shard : ShardState) (i : ℕ) → HasPart v so_many i from views log shard → CanBeCompacted limit shard
  one shard i part = record {
    keeps = elim least.one as (λ _. Keeps shard limit) [
      | inl whole ↦ subst (Keeps shard) (sym whole) part.keeps
      | inr view ↦ part.answers.keeps limit view (omega (arith, least.within, part.begun))
    ];
    uncut = elim least.one as (λ _. shard.cut ≤ limit) [
      | inl whole ↦ omega (arith, whole, part.cut)
      | inr view ↦ part.answers.uncut limit view
    ];
    pins = part.pins;
  }

-- and that goes past none that is asked for
pub least_uncut : (from limit : ℕ) (views : List ℕ) → IsLeast from views limit → IsUncut limit from views
least_uncut from limit views least = record {
  behind = least.within;
  uncut = λ n there. subst (λ m. limit ≤ m) there.2 (least.below there.0 n there.1);
}

-- each of them is then cut there
pub all_cut : {D : Type 0} (store : PlainState D) (limit : ℕ) (shards : List ShardState) → IsLeast (length store.log) (all_views store.seats) limit →
    AllAreCut limit shards → store.cuts ≡ map (λ shard. shard.cut) shards → IsCompacted store
all_cut store limit shards least cut are = record {
  limit = limit;
  least = least;
  cuts = rw are (All-map (λ c. c ≡ limit) (λ shard. shard.cut) shards (λ k d below. cut.each k d below));
}
