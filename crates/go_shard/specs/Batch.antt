-- What it means that lanes take a batch; no public contract speaks of it.
use Rattle.std.specs.Prelude.{◌≡◌, ℕ, ◌+◌, ◌/◌, ◌<◌, ◌^◌, List, length, All, count_by, filter, fold, map}
use Rattle.go_word.specs.declared.edge.Edge.{Edge}
use Rattle.go_word.specs.Word.{IsStorable, plain_word}
use Rattle.go_shard.specs.Lane.{Lane, lane_at, is_at, promising, accepting, known, IsAhead}
use Rattle.go_shard.specs.Listing.{ListsBare}

-- the words of a batch for the lane at a place
abbrev pub part_of : ℕ → List Edge → ℕ → List ℕ
part_of shards batch place = map plain_word (filter (is_at shards place) batch)

-- how many of them there are
abbrev pub share_of : ℕ → List Edge → ℕ → ℕ
share_of shards batch place = count_by (is_at shards place) batch

-- each entry of a batch has a lane, and nothing is promised yet
pub record CanPromise (shards : ℕ) (lanes : List Lane) (batch : List Edge) : Type 0 where
  pub places : length lanes < 2 ^ 32
  pub inside : All (λ e. e.src / shards < length lanes) batch
  pub settled : All (λ lane. lane.promised ≡ 0) lanes

-- lanes can take a batch up to a front: its entries have words, the front is ahead, and all counts fit
pub record CanTakeBatch (shards front : ℕ) (lanes : List Lane) (batch : List Edge) : Type 0 where
  pub room : CanPromise shards lanes batch
  pub storable : All IsStorable batch
  pub few : length batch < 2 ^ 32
  pub ahead : All (IsAhead front) lanes
  pub small : All (λ lane. known lane + length batch < 2 ^ 32) lanes

-- each lane has its part of a batch promised, and those that had no words are listed behind the others
pub record HavePromised (shards : ℕ) (batch : List Edge) (old new : List Lane) (before listed : List ℕ) : Type 0 where
  pub lanes : (place : ℕ) → lane_at new place ≡ promising (lane_at old place) (share_of shards batch place)
  pub bare : ListsBare old (share_of shards batch) before listed

-- each lane has taken its part of a batch
abbrev pub TookParts : ℕ → ℕ → List Edge → List Lane → List Lane → Type 0
TookParts shards front batch old new =
    (place : ℕ) → lane_at new place ≡ fold (accepting front) (promising (lane_at old place) (share_of shards batch place)) (part_of shards batch place)

-- and those that had no words are listed behind the others
pub record HaveTakenBatch (shards front : ℕ) (batch : List Edge) (old new : List Lane) (before listed : List ℕ) : Type 0 where
  pub lanes : TookParts shards front batch old new
  pub bare : ListsBare old (share_of shards batch) before listed
