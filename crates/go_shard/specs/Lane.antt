-- What a shard holds of one vertex.
use Rattle.std.specs.Prelude.{◌≡◌, ◌==◌, ℕ, ◌+◌, ◌-◌, ◌<◌, ◌≤◌, ◌/◌, if◌then◌else◌, Bool, List, [], ◌∷◌, ◌++◌, length, take, drop, fold, All, slice_index_or}
use Rattle.go_word.specs.declared.edge.Edge.{Edge}
use Rattle.go_net.specs.Net.{net_of}
use Rattle.go_versions.specs.Version.{Version}
use Rattle.go_versions.specs.History.{count_at}

-- the neighbours of a vertex at the cut, after how many entries, how many more neighbours there is room for, the words of its later entries, how
-- many entries there were in all from which front on, the front below which that isn't told any more, and how many more words are promised to be
-- taken; none are between calls
pub record Lane : Type 0 where
  pub base : List ℕ
  pub floor : ℕ
  pub spare : ℕ
  pub words : List ℕ
  pub versions : List Version
  pub retired : ℕ
  pub promised : ℕ

-- a vertex without entries
abbrev pub empty_lane : Lane
empty_lane = record { base = []; floor = 0; spare = 0; words = []; versions = []; retired = 0; promised = 0 }

-- how many entries a lane has in all
abbrev pub known : Lane → ℕ
known lane = lane.floor + length lane.words

-- the neighbours of a vertex after so many of its entries, those before the cut among them
abbrev pub list_at : Lane → ℕ → List ℕ
list_at lane raw = net_of lane.base (take (raw - lane.floor) lane.words)

-- a lane with so many promised
abbrev pub promising : Lane → ℕ → Lane
promising lane n = record lane { promised = n }

-- a lane after one word that was promised; the last one promised notes the count from the front on
abbrev pub accepting : ℕ → Lane → ℕ → Lane
accepting front lane word = record lane {
  words = lane.words ++ word ∷ [];
  versions = if lane.promised == 1 then lane.versions ++ record { front = front; count = known lane + 1 } ∷ [] else lane.versions;
  promised = lane.promised - 1;
}

-- a lane that was promised places for some words, and took them
abbrev pub taking : ℕ → List ℕ → Lane → Lane
taking front words lane = fold (accepting front) (promising lane (length words)) words

-- a lane that gave up its last words, so many of them, and the count that was noted last
abbrev pub without_last : ℕ → Lane → Lane
without_last n lane = if n == 0 then lane else record lane {
  words = take (length lane.words - n) lane.words;
  versions = take (length lane.versions - 1) lane.versions;
}

-- a front is ahead of all that a lane has noted, and what it noted is no more than it has
pub record IsAhead (front : ℕ) (lane : Lane) : Type 0 where
  pub later : All (λ v. v.front < front) lane.versions
  pub no_less : All (λ v. v.count ≤ known lane) lane.versions

-- a lane can keep what it promised: its chain has room for the words, and its versions for one more
pub record IsReady (spare room promised : ℕ) : Type 0 where
  pub words : promised ≤ spare
  pub versions : 0 < promised → 1 ≤ room

-- a lane compacted at a front: it has the neighbours there in place of the entries, and tells the same from that front on
pub record IsCompacted (front : ℕ) (old new : Lane) : Type 0 where
  pub base : new.base ≡ list_at old new.floor
  pub floor : new.floor ≡ count_at old.versions front
  pub words : new.words ≡ drop (new.floor - old.floor) old.words
  pub told : (f : ℕ) → front ≤ f → count_at new.versions f ≡ count_at old.versions f
  pub given_up : ℕ
  pub versions : new.versions ≡ drop given_up old.versions
  pub retired : new.retired ≤ front
  pub settled : new.promised ≡ 0

-- the lane at a place, and an empty one past the end
abbrev pub lane_at : List Lane → ℕ → Lane
lane_at lanes place = slice_index_or lanes place empty_lane

-- an entry belongs to the lane at a place, in a shard that is one of so many
abbrev pub is_at : ℕ → ℕ → Edge → Bool
is_at shards place e = e.src / shards == place

-- a lane is what it was but for what is promised, and is just what it was where nothing was named
pub record IsRestored (named : ℕ) (old new : Lane) : Type 0 where
  pub back : promising new 0 ≡ old
  pub untouched : named ≡ 0 → new ≡ old
