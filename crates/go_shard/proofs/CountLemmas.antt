-- The counts of all vertices of a shard at a front, by their places.
use Rattle.std.proofs.Common.{◌≡◌, ℕ, ◌+◌, ◌<◌, ◌≤◌, ◌/◌, ◌^◌, List, [], ◌∷◌, length, map, get_or, refl, sym, ap, ◌∙◌, arith}
use Rattle.std.specs.Prelude.{All, slice_index}
use Rattle.std.proofs.Math.Nat.{div-mul-le_self}
use Rattle.std.proofs.lemmas.List.{get_or-map, length-map}
use Rattle.std.proofs.lemmas.List.Elements.{All-head, All-tail, All-weaker}
use Rattle.std.proofs.lemmas.Nat.{le-div}
use Rattle.go_versions.specs.History.{count_at}
use Rattle.go_shard.specs.Lane.{Lane, empty_lane, known}
use Rattle.go_shard.specs.ShardState.{ShardState, IsOf, IsAtRest, IsSound, told, counts_of}

-- at the front of lanes at rest each has told all that it has
pub known_counts : (cut front : ℕ) (lanes : List Lane) → All (IsAtRest cut front) lanes →
    map known lanes ≡ map (λ (lane : Lane). count_at lane.versions front) lanes
known_counts cut front [] rest = refl
known_counts cut front (lane ∷ lanes) rest =
    let here = All-head (IsAtRest cut front) lane lanes rest in
    ap (λ (n : ℕ). n ∷ map known lanes) (sym here.at_front)
    ∙ ap (λ (ns : List ℕ). count_at lane.versions front ∷ ns) (known_counts cut front lanes (All-tail (IsAtRest cut front) lane lanes rest))

-- none has more than there are positions
pub known_small : (cut front : ℕ) (lanes : List Lane) → front < 2 ^ 32 → All (IsAtRest cut front) lanes → All (λ lane. known lane < 2 ^ 32) lanes
known_small cut front lanes small rest = All-weaker (IsAtRest cut front) (λ lane. known lane < 2 ^ 32) (λ lane is. let few = is.few in omega arith) lanes rest

-- each tells of what is from the cut on
pub all_told : (cut front at : ℕ) (lanes : List Lane) → cut ≤ at → All (IsAtRest cut front) lanes → All (λ lane. lane.retired ≤ at) lanes
all_told cut front at lanes from rest =
    All-weaker (IsAtRest cut front) (λ lane. lane.retired ≤ at) (λ lane is. let retired = is.retired in omega arith) lanes rest

-- there is a count for each place, and that of a vertex is what the shard tells of it
pub counts_long : (shard : ShardState) (front : ℕ) → IsSound shard → length (counts_of shard front) ≡ shard.vertices / shard.shards + 1
counts_long shard front sound = length-map shard.lanes (λ (lane : Lane). count_at lane.versions front) ∙ sound.shape.whole

pub counts_each : (shard : ShardState) (front v : ℕ) → IsSound shard → IsOf shard v →
    slice_index (counts_of shard front) (v / shard.shards) ≡ told shard v front
counts_each shard front v sound is =
    let within = is.within in
    let early : v / shard.shards ≤ shard.vertices / shard.shards =
    le-div (v / shard.shards) shard.vertices shard.shards sound.shape.shared (omega (arith, within, div-mul-le_self v shard.shards)) in
    let inside : v / shard.shards < length shard.lanes = omega (arith, early, sound.shape.whole) in
    get_or-map (λ (lane : Lane). count_at lane.versions front) shard.lanes (v / shard.shards) empty_lane 0 inside
