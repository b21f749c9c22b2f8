-- Lemmas on the parts of shards in a longer log, and at its end.
use Rattle.std.proofs.Common.{◌≡◌, ◌⊎◌, ℕ, ◌≤◌, List, ◌++◌, length, get_or, arith, sym, subst, inl, inr, length-append}
use Rattle.std.specs.Prelude.{Contains}
use Rattle.std.proofs.lemmas.List.{take-append-le}
use Rattle.go_word.specs.declared.edge.Edge.{Edge}
use Rattle.go_shard.specs.ShardState.{ShardState, Keeps}
use Rattle.go_shard.specs.Stands.{Stands}
use Rattle.go_shard.specs.Parts.{HasPart, HaveParts}

-- one shard's part of a longer log
pub part_longer : (v so_many i from : ℕ) (views : List ℕ) (log more : List Edge) (shard : ShardState) → HasPart v so_many i from views log shard →
    HasPart v so_many i from views (log ++ more) shard
part_longer v so_many i from views log more shard part = record {
  whose = part.whose;
  stands = subst (Stands shard) (sym (take-append-le shard.front log more part.within)) part.stands;
  begun = part.begun;
  within = omega (arith, part.within, length-append log more);
  keeps = part.keeps;
  cut = part.cut;
  answers = part.answers;
  pins = part.pins;
}

-- the shards' parts of a longer log
pub parts_longer : (v so_many from : ℕ) (views : List ℕ) (log more : List Edge) (shards : List ShardState) → HaveParts v so_many from views log shards →
    HaveParts v so_many from views (log ++ more) shards
parts_longer v so_many from views log more shards parts = record {
  some = parts.some;
  few = parts.few;
  count = parts.count;
  each = λ i d below. part_longer v so_many i from views log more (get_or shards i d) (parts.each i d below);
}

-- a shard keeps the fronts of other views, each of which is as the log's end or was one before
pub part_viewed : (v so_many i from front : ℕ) (views later : List ℕ) (log : List Edge) (shard : ShardState) → front ≡ length log →
    ((n : ℕ) → Contains later n → (front ≡ n) ⊎ Contains views n) → HasPart v so_many i from views log shard → HasPart v so_many i from later log shard
part_viewed v so_many i from front views later log shard whole among part = record {
  whose = part.whose;
  stands = part.stands;
  begun = part.begun;
  within = part.within;
  keeps = part.keeps;
  cut = part.cut;
  answers = record {
    keeps = λ n view below. keep n below (among n view);
    uncut = λ n view. uncut n (among n view);
  };
  pins = part.pins;
} where
  uncut : (n : ℕ) → (front ≡ n) ⊎ Contains views n → shard.cut ≤ n
  uncut n (inl is) = omega (arith, is, whole, part.within, part.stands.cut)
  uncut n (inr view) = part.answers.uncut n view

  keep : (n : ℕ) → n ≤ shard.front → (front ≡ n) ⊎ Contains views n → Keeps shard n
  keep n below (inl is) =
      let same : shard.front ≡ n = omega (arith, is, whole, below, part.within) in
      subst (Keeps shard) same part.stands.keeps_front
  keep n below (inr view) = part.answers.keeps n view below

-- so do all shards
pub parts_viewed : (v so_many from front : ℕ) (views later : List ℕ) (log : List Edge) (shards : List ShardState) → front ≡ length log →
    ((n : ℕ) → Contains later n → (front ≡ n) ⊎ Contains views n) → HaveParts v so_many from views log shards → HaveParts v so_many from later log shards
parts_viewed v so_many from front views later log shards whole among parts = record {
  some = parts.some;
  few = parts.few;
  count = parts.count;
  each = λ i d below. part_viewed v so_many i from front views later log (get_or shards i d) whole among (parts.each i d below);
}

-- a shard at the end of the log has its part behind it
pub part_come : (v so_many i from : ℕ) (views : List ℕ) (log : List Edge) (shard : ShardState) → HasPart v so_many i from views log shard →
    length log ≤ shard.front → HasPart v so_many i (length log) views log shard
part_come v so_many i from views log shard part come =
    let end : shard.front ≡ length log = omega (arith, part.within, come) in
    record {
      whose = part.whose;
      stands = part.stands;
      begun = come;
      within = part.within;
      keeps = subst (Keeps shard) end part.stands.keeps_front;
      cut = omega (arith, part.stands.cut, end);
      answers = part.answers;
      pins = part.pins;
    }
