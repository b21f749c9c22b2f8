-- Which places of a shard are listed; no public contract speaks of it.
use Rattle.std.specs.Prelude.{◌≡◌, ◌⊎◌, ◌==◌, ◌&&◌, ℕ, ◌<◌, false, Bool, List, [], ◌∷◌, ◌++◌, length, take, All, Contains}
use Rattle.go_shard.specs.Lane.{Lane, lane_at}

-- each place is one of a lane, and those of all lanes with words are listed
pub record AreListed (listed : List ℕ) (lanes : List Lane) : Type 0 where
  pub inside : All (λ place. place < length lanes) listed
  pub whole : (place : ℕ) → 0 < length (lane_at lanes place).words → Contains listed place

-- places were listed behind others: by how many entries a batch has for each place, those of lanes without words that get some
pub record ListsBare (lanes : List Lane) (named : ℕ → ℕ) (old new : List ℕ) : Type 0 where
  pub kept : take (length old) new ≡ old
  pub inside : All (λ place. place < length lanes) old → All (λ place. place < length lanes) new
  pub added : (place : ℕ) → 0 < named place → (lane_at lanes place).words ≡ [] → Contains new place

-- a lane has no words, and none are promised to it
abbrev pub is_bare : Lane → Bool
is_bare lane = (length lane.words == 0) && (lane.promised == 0)

-- a place was listed, or nothing is promised to its lane, or that isn't bare
abbrev pub HasListed : ℕ → ℕ → Lane → List ℕ → List ℕ → Type 0
HasListed place more lane old new = (new ≡ old ++ place ∷ []) ⊎ ((new ≡ old) × ((more ≡ 0) ⊎ (is_bare lane ≡ false)))
