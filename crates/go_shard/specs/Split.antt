-- What it means to split a batch among shards.
use Rattle.std.specs.Prelude.{◌≡◌, ◌==◌, ℕ, ◌<◌, ◌%◌, Bool, List, [], length, filter, get_or}
use Rattle.go_word.specs.declared.edge.Edge.{Edge}

-- an entry leaves a vertex of the shard i of so many
abbrev pub is_of_shard : ℕ → ℕ → Edge → Bool
is_of_shard shards i e = e.src % shards == i

-- there is a list for each shard, and it has the entries that leave the shard's vertices, in their order
pub record IsSplit (shards : ℕ) (edges : List Edge) (lists : List (List Edge)) : Type 0 where
  pub so_many : length lists ≡ shards
  pub each : (i : ℕ) → i < shards → get_or lists i [] ≡ filter (is_of_shard shards i) edges
