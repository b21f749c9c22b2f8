-- Lemmas on the shard of a benchmark.
use Rattle.std.proofs.Common.{◌≡◌, ℕ, List, ap, subst, ◌∙◌}
use Rattle.go_word.specs.declared.edge.Edge.{Edge}
use Rattle.go_shard.specs.ShardState.{ShardState, Keeps}
use Rattle.go_shard.specs.Stands.{HasGrown}
use Rattle.go_bench.specs.Filled.{IsFilled}

-- a shard after one more append
pub filled_more : (old new : ShardState) (before front length : ℕ) (batch : List Edge) → IsFilled before old → front ≡ length →
    HasGrown front batch old new → IsFilled length new
filled_more old new before front length batch filled same grown = record {
  index = ap (λ (s : ShardState). s.index) grown.same ∙ filled.index;
  shards = ap (λ (s : ShardState). s.shards) grown.same ∙ filled.shards;
  vertices = ap (λ (s : ShardState). s.vertices) grown.same ∙ filled.vertices;
  cut = ap (λ (s : ShardState). s.cut) grown.same ∙ filled.cut;
  front = ap (λ (s : ShardState). s.front) grown.same ∙ same;
  kept = subst (Keeps new) same grown.keeps_front;
}
