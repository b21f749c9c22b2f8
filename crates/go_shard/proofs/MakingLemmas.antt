-- Lemmas on shards without entries, and on shards that have come to the end of a log.
use Rattle.std.proofs.Common.{◌≡◌, ℕ, suc, ◌+◌, ◌<◌, ◌≤◌, ◌^◌, List, [], ◌∷◌, ◌++◌, length, take, get_or, refl, arith, sym, subst, inl, inr, length-append}
use Rattle.std.proofs.Common.{zero-add}
use Rattle.std.specs.Prelude.{All}
use Rattle.std.proofs.lemmas.Bool.Decides.{leb_tells}
use Rattle.std.proofs.lemmas.List.{get_or_append_left, get_or_push}
use Rattle.go_word.specs.declared.edge.Edge.{Edge}
use Rattle.go_word.specs.Log.{IsWithin}
use Rattle.go_shard.specs.ShardState.{ShardState, Keeps}
use Rattle.go_shard.specs.Stands.{Stands}
use Rattle.go_shard.specs.Parts.{IsShardOf, HasPart, HaveParts, IsBehind, AllHaveCome}
use Rattle.go_shard.proofs.LongerLemmas.{part_come}

-- the shard i of so many, without entries
pub record IsEmpty (v so_many i : ℕ) (shard : ShardState) : Type 0 where
  pub stands : Stands shard []
  pub whose : IsShardOf v so_many i shard
  pub pins : shard.pins ≡ []

-- the first shards of so many, without entries
pub record IsEmptyUpTo (v so_many i : ℕ) (shards : List ShardState) : Type 0 where
  pub count : length shards ≡ i
  pub each : (k : ℕ) (d : ShardState) → k < i → IsEmpty v so_many k (get_or shards k d)

-- one shard more
pub empty_push : (v so_many i : ℕ) (shards : List ShardState) (shard : ShardState) → IsEmptyUpTo v so_many i shards → IsEmpty v so_many i shard →
    IsEmptyUpTo v so_many (i + 1) (shards ++ shard ∷ [])
empty_push v so_many i shards shard up is = record {
  count = omega (arith, length-append shards (shard ∷ []), up.count);
  each = λ k d below.
      elim (leb_tells (suc k) i) [
        | inl h ↦ subst (IsEmpty v so_many k) (sym (get_or_append_left shards (shard ∷ []) d k (omega (arith, h.1, up.count)))) (up.each k d h.1)
        | inr h ↦
            let same : k ≡ i = omega (arith, below, h.1) in
            subst (IsEmpty v so_many k) (sym (get_or_push shards shard d k (omega (arith, same, up.count))))
            (subst (λ (n : ℕ). IsEmpty v so_many n shard) (sym same) is)
      ];
}

-- a shard without entries has its part of each log up to its beginning
empty_part : (v so_many i : ℕ) (log : List Edge) (shard : ShardState) → IsEmpty v so_many i shard → HasPart v so_many i 0 [] log shard
empty_part v so_many i log shard is =
    let front : shard.front ≡ 0 = sym is.stands.whole in
    record {
      whose = is.whose;
      stands = subst (λ (n : ℕ). Stands shard (take n log)) (sym front) is.stands;
      begun = omega arith;
      within = omega (arith, front);
      keeps = subst (Keeps shard) front is.stands.keeps_front;
      cut = omega (arith, front, is.stands.cut);
      answers = record {
        keeps = λ n view below. absurd (omega (arith, view.1));
        uncut = λ n view. absurd (omega (arith, view.1));
      };
      pins = is.pins;
    }

-- all shards without entries
pub empty_all : (v so_many : ℕ) (shards : List ShardState) → IsEmptyUpTo v so_many so_many shards → 1 ≤ so_many → so_many < 2 ^ 32 → (log : List Edge) →
    HaveParts v so_many 0 [] log shards
empty_all v so_many shards up some few log = record {
  some = some;
  few = few;
  count = up.count;
  each = λ i d below. empty_part v so_many i log (get_or shards i d) (up.each i d below);
}

-- shards that have come to the end of a log
pub all_come : (v so_many from : ℕ) (views : List ℕ) (log : List Edge) (shards : List ShardState) → HaveParts v so_many from views log shards →
    AllHaveCome (length log) shards →
    HaveParts v (length shards) (length log) views log shards
all_come v so_many from views log shards parts come = record {
  some = omega (arith, parts.some, parts.count);
  few = omega (arith, parts.few, parts.count);
  count = refl;
  each = λ i d below.
      subst (λ (n : ℕ). HasPart v n i (length log) views log (get_or shards i d)) (sym parts.count)
      (part_come v so_many i from views log (get_or shards i d) (parts.each i d (omega (arith, below, parts.count))) (come.each i d below));
}

-- shards without entries are behind a whole log
pub none_behind : (v so_many : ℕ) (log : List Edge) (shards : List ShardState) → HaveParts v so_many 0 [] log shards → All (IsWithin v) log →
    length log < 2 ^ 32 → IsBehind v so_many 0 [] log log shards
none_behind v so_many log shards parts ids small = record {
  parts = parts;
  newest_are = refl;
  from_within = omega arith;
  ids = ids;
  small = small;
}

-- counted from the log's beginning
pub come_whole : (count : ℕ) (shards : List ShardState) → AllHaveCome (0 + count) shards → AllHaveCome count shards
come_whole count shards come = subst (λ (n : ℕ). AllHaveCome n shards) (zero-add count) come
