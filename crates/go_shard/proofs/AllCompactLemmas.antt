-- Lemmas on shards that are compacted one after another.
use Rattle.std.proofs.Common.{◌≡◌, ◌≢◌, ℕ, ◌+◌, ◌<◌, ◌≤◌, List, [], length, get_or, set, take, refl, ap, arith, sym, subst, ◌∙◌, inl, inr}
use Rattle.std.proofs.lemmas.Bool.Decides.{eqb_tells}
use Rattle.std.proofs.lemmas.List.{get_or_default, get_or-set_other}
use Rattle.std.proofs.lemmas.Grind.{get_or-set_at}
use Rattle.std.proofs.Math.ListN.{length-set}
use Rattle.std.specs.Prelude.{All}
use Rattle.go_word.specs.declared.edge.Edge.{Edge}
use Rattle.go_word.specs.declared.pin.Pin.{Pin}
use Rattle.go_shard.specs.ShardState.{ShardState}
use Rattle.go_shard.specs.Stands.{Stands}
use Rattle.go_shard.specs.Parts.{HasPart, HaveParts, IsUncut, HasCompacted, MayHaveCompacted, MayAllHaveCompacted, AllAreCut}

-- the first shards have had their turn, and the others are what they were
pub record IsCompactedUpTo (front : ℕ) (old now : List ShardState) (i : ℕ) : Type 0 where
  pub count : length now ≡ length old
  pub each : (k : ℕ) (d : ShardState) → k < length old → MayHaveCompacted front (get_or old k d) (get_or now k d)
  pub had : (k : ℕ) (d : ShardState) → k < i → k < length old → (get_or now k d).cut ≡ front
  pub rest : (k : ℕ) (d : ShardState) → i ≤ k → k < length old → get_or now k d ≡ get_or old k d

-- at the beginning each is what it was
pub compacted_none : (front : ℕ) (old : List ShardState) → IsCompactedUpTo front old old 0
compacted_none front old = record {
  count = refl;
  each = λ k d below. inl refl;
  had = λ k d before below. absurd (omega (arith, before));
  rest = λ k d from below. refl;
}

-- the shard that has its turn is what it was
pub compacted_next : (front : ℕ) (old now : List ShardState) (i : ℕ) (d e : ShardState) → IsCompactedUpTo front old now i →
    i < length old → e ≡ get_or now i e → get_or old i d ≡ e
compacted_next front old now i d e up within here =
    let inside : i < length now = omega (arith, within, up.count) in
    sym (up.rest i d (omega arith) within) ∙ get_or_default now i d e inside ∙ sym here

-- each may have been compacted, where one more may have
compacted_each : (front : ℕ) (old now : List ShardState) (i : ℕ) (e new : ShardState) → IsCompactedUpTo front old now i →
    i < length old → e ≡ get_or now i e → MayHaveCompacted front e new →
    (k : ℕ) (d : ShardState) → k < length old → MayHaveCompacted front (get_or old k d) (get_or (set now i new) k d)
compacted_each front old now i e new up within here may k d below =
    elim (eqb_tells k i) [
      | inl h ↦
          let inside : i < length now = omega (arith, within, up.count) in
          let was : get_or old k d ≡ e = ap (λ (n : ℕ). get_or old n d) h.1 ∙ compacted_next front old now i d e up within here in
          let is : get_or (set now i new) k d ≡ new = get_or-set_at now i k new d h.1 inside in
          rw (was, is) may
      | inr h ↦
          let other : k ≢ i = h.1 in
          subst (λ (s : ShardState). MayHaveCompacted front (get_or old k d) s) (sym (get_or-set_other now i k new d other)) (up.each k d below)
    ]

-- those that had their turn are cut at the front, where the next one is
compacted_had : (front : ℕ) (old now : List ShardState) (i : ℕ) (new : ShardState) → IsCompactedUpTo front old now i →
    i < length old → new.cut ≡ front → (k : ℕ) (d : ShardState) → k < i + 1 → k < length old → (get_or (set now i new) k d).cut ≡ front
compacted_had front old now i new up within cut k d before below =
    elim (eqb_tells k i) [
      | inl h ↦
          let inside : i < length now = omega (arith, within, up.count) in
          ap (λ (s : ShardState). s.cut) (get_or-set_at now i k new d h.1 inside) ∙ cut
      | inr h ↦
          let other : k ≢ i = h.1 in
          let less : k < i = omega (arith, before, other) in
          ap (λ (s : ShardState). s.cut) (get_or-set_other now i k new d other) ∙ up.had k d less below
    ]

-- one shard more has had its turn
pub compacted_one : (front : ℕ) (old now : List ShardState) (i : ℕ) (e new : ShardState) → IsCompactedUpTo front old now i →
    i < length old → e ≡ get_or now i e → MayHaveCompacted front e new → new.cut ≡ front → IsCompactedUpTo front old (set now i new) (i + 1)
compacted_one front old now i e new up within here may cut = record {
  count = length-set now i new ∙ up.count;
  each = compacted_each front old now i e new up within here may;
  had = compacted_had front old now i new up within cut;
  rest = λ k d from below. get_or-set_other now i k new d (λ same. absurd (omega (arith, from, same))) ∙ up.rest k d (omega (arith, from)) below;
}

-- all may have been compacted, where one may have and those behind it had no turn
pub compacted_some : (front : ℕ) (old now : List ShardState) (i : ℕ) (e new : ShardState) → IsCompactedUpTo front old now i →
    i < length old → e ≡ get_or now i e → MayHaveCompacted front e new → MayAllHaveCompacted front old (set now i new)
compacted_some front old now i e new up within here may = record {
  count = length-set now i new ∙ up.count;
  each = compacted_each front old now i e new up within here may;
}

-- all have had their turn
pub compacted_all : (front : ℕ) (old now : List ShardState) (i : ℕ) → IsCompactedUpTo front old now i → length old ≤ i →
    MayAllHaveCompacted front old now × AllAreCut front now
compacted_all front old now i up all = (
  record { count = up.count; each = up.each },
  record { each = λ k d below. up.had k d (omega (arith, below, up.count)) (omega (arith, below, up.count)) },
)

-- without pins none is below a front
pub unpinned : (front : ℕ) (pins : List Pin) → pins ≡ [] → All (λ pin. front ≤ pin.front) pins
unpinned front pins none = rw none (λ k d below. absurd (omega (arith, below)))

-- a shard that was compacted still has its part
part_compacted : (v so_many i from front : ℕ) (views : List ℕ) (log : List Edge) (old new : ShardState) → IsUncut front from views →
    HasCompacted front old new →
    HasPart v so_many i from views log old → HasPart v so_many i from views log new
part_compacted v so_many i from front views log old new uncut done part =
    let same = done.forgotten.same in
    let reach : new.front ≡ old.front = ap (λ (s : ShardState). s.front) same in
    let cut : new.cut ≡ front = ap (λ (s : ShardState). s.cut) same in
    record {
      whose = record {
        index_is = ap (λ (s : ShardState). s.index) same ∙ part.whose.index_is;
        shards_are = ap (λ (s : ShardState). s.shards) same ∙ part.whose.shards_are;
        vertices_are = ap (λ (s : ShardState). s.vertices) same ∙ part.whose.vertices_are;
      };
      stands = subst (λ (n : ℕ). Stands new (take n log)) (sym reach) (done.stands (take old.front log) part.stands);
      begun = omega (arith, reach, part.begun);
      within = omega (arith, reach, part.within);
      keeps = done.forgotten.keeps from uncut.behind part.keeps;
      cut = omega (arith, cut, uncut.behind);
      answers = record {
        keeps = λ n view below. done.forgotten.keeps n (uncut.uncut n view) (part.answers.keeps n view (omega (arith, below, reach)));
        uncut = λ n view. omega (arith, cut, uncut.uncut n view);
      };
      pins = ap (λ (s : ShardState). s.pins) same ∙ part.pins;
    }

-- or is what it was
part_may : (v so_many i from front : ℕ) (views : List ℕ) (log : List Edge) (old new : ShardState) → IsUncut front from views → MayHaveCompacted front old new →
    HasPart v so_many i from views log old → HasPart v so_many i from views log new
part_may v so_many i from front views log old new uncut (inl same) part = subst (HasPart v so_many i from views log) (sym same) part
part_may v so_many i from front views log old new uncut (inr done) part = part_compacted v so_many i from front views log old new uncut done part

-- shards that may have been compacted still have their parts
pub parts_compacted : (v so_many from front : ℕ) (views : List ℕ) (log : List Edge) (old new : List ShardState) → MayAllHaveCompacted front old new →
    HaveParts v so_many from views log old → IsUncut front from views → HaveParts v so_many from views log new
parts_compacted v so_many from front views log old new may parts uncut = record {
  some = parts.some;
  few = parts.few;
  count = may.count ∙ parts.count;
  each = λ i d below.
      part_may v so_many i from front views log (get_or old i d) (get_or new i d) uncut (may.each i d (omega (arith, below, parts.count)))
      (parts.each i d below);
}
