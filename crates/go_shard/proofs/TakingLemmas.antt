-- Lemmas on shards that take their batches one after another.
use Rattle.std.proofs.Common.{◌≡◌, ◌≢◌, ℕ, ◌+◌, ◌<◌, ◌≤◌, List, [], length, get_or, set, map, refl, ap, arith, sym, subst, ◌∙◌, inl, inr}
use Rattle.std.proofs.lemmas.Bool.Decides.{eqb_tells}
use Rattle.std.proofs.lemmas.List.{get_or_default, get_or-set_other, get_or-map}
use Rattle.std.proofs.lemmas.Grind.{get_or-set_at}
use Rattle.std.proofs.Math.ListN.{length-set}
use Rattle.go_word.specs.declared.edge.Edge.{Edge}
use Rattle.go_shard.specs.ShardState.{ShardState}
use Rattle.go_shard.specs.Taking.{MayHaveTaken, MayAllHaveTaken, NoneIsAt}

-- the first shards have had their turn, and the others are what they were
pub record IsTakenUpTo (start end : ℕ) (batches : List (List Edge)) (old now : List ShardState) (i : ℕ) : Type 0 where
  pub count : length now ≡ length old
  pub each : (k : ℕ) (d : ShardState) → k < length old → MayHaveTaken start end (get_or batches k []) (get_or old k d) (get_or now k d)
  pub had : (k : ℕ) (d : ShardState) → k < i → k < length old → (get_or now k d).front ≡ start → ⊥
  pub rest : (k : ℕ) (d : ShardState) → i ≤ k → k < length old → get_or now k d ≡ get_or old k d

-- at the beginning each is what it was
pub taken_none : (start end : ℕ) (batches : List (List Edge)) (old : List ShardState) → IsTakenUpTo start end batches old old 0
taken_none start end batches old = record {
  count = refl;
  each = λ k d below. inl refl;
  had = λ k d before below at. absurd (omega (arith, before));
  rest = λ k d from below. refl;
}

-- the shard that has its turn is what it was
pub taken_next : (start end : ℕ) (batches : List (List Edge)) (old now : List ShardState) (i : ℕ) (d e : ShardState) → IsTakenUpTo start end batches old now i →
    i < length old → e ≡ get_or now i e → get_or old i d ≡ e
taken_next start end batches old now i d e up within here =
    let inside : i < length now = omega (arith, within, up.count) in
    sym (up.rest i d (omega arith) within) ∙ get_or_default now i d e inside ∙ sym here

-- each may have taken its batch, where one more may have
taken_each : (start end : ℕ) (batches : List (List Edge)) (old now : List ShardState) (i : ℕ) (e new : ShardState) → IsTakenUpTo start end batches old now i →
    i < length old → e ≡ get_or now i e → MayHaveTaken start end (get_or batches i []) e new →
    (k : ℕ) (d : ShardState) → k < length old → MayHaveTaken start end (get_or batches k []) (get_or old k d) (get_or (set now i new) k d)
taken_each start end batches old now i e new up within here may k d below =
    elim (eqb_tells k i) [
      | inl h ↦
          let inside : i < length now = omega (arith, within, up.count) in
          let was : get_or old k d ≡ e = ap (λ (n : ℕ). get_or old n d) h.1 ∙ taken_next start end batches old now i d e up within here in
          let is : get_or (set now i new) k d ≡ new = get_or-set_at now i k new d h.1 inside in
          let batch : get_or batches k [] ≡ get_or batches i [] = ap (λ (n : ℕ). get_or batches n []) h.1 in
          rw (was, is, batch) may
      | inr h ↦
          let other : k ≢ i = h.1 in
          subst (λ (s : ShardState). MayHaveTaken start end (get_or batches k []) (get_or old k d) s) (sym (get_or-set_other now i k new d other))
          (up.each k d below)
    ]

-- none of those that had their turn is at the front, where the next one isn't
taken_had : (start end : ℕ) (batches : List (List Edge)) (old now : List ShardState) (i : ℕ) (new : ShardState) → IsTakenUpTo start end batches old now i →
    i < length old → (new.front ≡ start → ⊥) → (k : ℕ) (d : ShardState) → k < i + 1 → k < length old → (get_or (set now i new) k d).front ≡ start → ⊥
taken_had start end batches old now i new up within gone k d before below at =
    elim (eqb_tells k i) [
      | inl h ↦
          let inside : i < length now = omega (arith, within, up.count) in
          gone (ap (λ (s : ShardState). s.front) (sym (get_or-set_at now i k new d h.1 inside)) ∙ at)
      | inr h ↦
          let other : k ≢ i = h.1 in
          let less : k < i = omega (arith, before, other) in
          up.had k d less below (ap (λ (s : ShardState). s.front) (sym (get_or-set_other now i k new d other)) ∙ at)
    ]

-- one shard more has had its turn
pub taken_one : (start end : ℕ) (batches : List (List Edge)) (old now : List ShardState) (i : ℕ) (e new : ShardState) →
    IsTakenUpTo start end batches old now i →
    i < length old → e ≡ get_or now i e → MayHaveTaken start end (get_or batches i []) e new → (new.front ≡ start → ⊥) →
    IsTakenUpTo start end batches old (set now i new) (i + 1)
taken_one start end batches old now i e new up within here may gone = record {
  count = length-set now i new ∙ up.count;
  each = taken_each start end batches old now i e new up within here may;
  had = taken_had start end batches old now i new up within gone;
  rest = λ k d from below. get_or-set_other now i k new d (λ same. absurd (omega (arith, from, same))) ∙ up.rest k d (omega (arith, from)) below;
}

-- all may have taken their batches, where one may have and those behind it had no turn
pub taken_some : (start end : ℕ) (batches : List (List Edge)) (old now : List ShardState) (i : ℕ) (e new : ShardState) →
    IsTakenUpTo start end batches old now i →
    i < length old → e ≡ get_or now i e → MayHaveTaken start end (get_or batches i []) e new → MayAllHaveTaken start end batches old (set now i new)
taken_some start end batches old now i e new up within here may = record {
  count = length-set now i new ∙ up.count;
  each = taken_each start end batches old now i e new up within here may;
}

-- all have had their turn
pub taken_all : (start end : ℕ) (batches : List (List Edge)) (old now : List ShardState) (i : ℕ) → IsTakenUpTo start end batches old now i → length old ≤ i →
    MayAllHaveTaken start end batches old now × NoneIsAt start now
taken_all start end batches old now i up all = (
  record { count = up.count; each = up.each },
  record { each = λ k d below. up.had k d (omega (arith, below, up.count)) (omega (arith, below, up.count)) },
)

-- the batch of a shard, as it is read from a list of vectors
pub batch_at : {V : Type 0} (items : V → List Edge) (batches : List V) (i : ℕ) (v : V) (batch : List Edge) → i < length batches → v ≡ get_or batches i v →
    batch ≡ items v →
    get_or (map items batches) i [] ≡ batch
batch_at items batches i v batch within here is = get_or-map items batches i v [] within ∙ ap items (sym here) ∙ sym is
