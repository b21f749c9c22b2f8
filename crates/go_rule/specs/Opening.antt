-- Over what a ring may be opened.
use Rattle.std.specs.Prelude.{◌≡◌, ℕ, ◌+◌, ◌-◌, ◌^◌, ◌≤◌, List, [], map, length, All, slice_get, Option as Maybe, Some}
use Rattle.go_core.specs.Parts.{IsShardPlace, IsFilePlace}
use Rattle.go_rule.specs.declared.layout.Key.{Key}
use Rattle.go_rule.specs.Meaning.{Meaning}
use Rattle.go_rule.specs.Views.{frame_of, opened_of}
use Rattle.go_rule.specs.Rule.{IsBelow}

-- the entries before the first position are as many, between vertices of the graph, and leave room for what may be claimed
pub record IsRoom {P : Type 0} (key : Key P) : Type 0 where
  pub long : length (opened_of key) ≡ key.first
  pub below : All (IsBelow key.layout.vertices) (opened_of key)
  pub few : key.first + key.quota ≤ 2 ^ 32 - 1

module _ {P : Type 0} (m : Meaning P) where
  -- a part reaches to the first position, and stands for what is before it
  pub record IsFirst (key : Key P) (place : ℕ) (part : P) : Type 0 where
    pub fits : m.fits part place key.layout.shards key.layout.vertices
    pub front : (m.state_of part).front ≡ key.first
    pub stands : m.stands_for part key.first (opened_of key)

  -- a shard tells of the first position, and nothing is pinned
  pub record IsFirstShard (key : Key P) (part : P) : Type 0 where
    pub cut : (m.state_of part).cut ≤ key.first
    pub pins : (m.state_of part).pins ≡ []
    pub keeps : m.keeps part key.first

  -- the file is the one that the rule remembers, and its disk recovers to what is before the first position
  pub record IsFirstFile (key : Key P) (part : P) : Type 0 where
    pub same : part ≡ key.file.value
    pub whole : m.is_spent part → ⊥
    pub recovers : m.recovers part (opened_of key) key.layout.vertices key.first (m.mark_of part)

  -- there is a part for each place, and each is as it has to be
  pub record CanOpen (key : Key P) (slots : List (Maybe P)) : Type 0 where
    pub room : IsRoom key
    pub parts : List P
    pub all : slots ≡ map Some parts
    pub count : length parts ≡ key.layout.shards + 1
    pub first : (place : ℕ) (part : P) → slice_get parts place ≡ Some part → IsFirst key place part
    pub shards : (place : ℕ) (part : P) → slice_get parts place ≡ Some part → IsShardPlace (frame_of key) place → IsFirstShard key part
    pub file : (place : ℕ) (part : P) → slice_get parts place ≡ Some part → IsFilePlace (frame_of key) place → IsFirstFile key part
