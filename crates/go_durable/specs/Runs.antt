-- Runs of blocks: the stretches of a log's file that are read by one call each.
use Rattle.std.specs.Prelude.{◌≡◌, ℕ, ◌+◌, ◌-◌, ◌*◌, ◌^◌, ◌<◌, ◌≤◌, All, List, length, min, take, drop}
use Rattle.go_word.specs.declared.edge.Edge.{Edge}
use Rattle.go_blocks.specs.declared.layout.TheConstants.{FIRST_GATE, WORDS_AT}
use Rattle.go_blocks.specs.declared.log_file.BlockPlace.{BlockPlace}
use Rattle.go_durable.specs.declared.run.Run.{Run}
use Rattle.go_durable.specs.LogState.{AreInRow, IsPlacedBefore, entries_at}
use Rattle.go_durable.specs.Ranging.{HasEntry, entries_in}

-- where the word of an entry stands in the file, by the number of its block: behind the header, so many gates and counts, and the earlier words
abbrev pub place_of_word : ℕ → ℕ → ℕ
place_of_word number entry = FIRST_GATE + WORDS_AT * (number + 1) + 8 * entry

-- where the closed gate stands behind these blocks
abbrev pub gate_behind : List BlockPlace → ℕ
gate_behind places = FIRST_GATE + WORDS_AT * length places + 8 * entries_at places

-- the blocks of a log stand one behind the other up to the closed gate
pub record AreBlocks (places : List BlockPlace) : Type 0 where
  pub few_blocks : length places < 2 ^ 32
  pub few_entries : entries_at places < 2 ^ 32
  pub placed : All (IsPlacedBefore (gate_behind places)) places
  pub in_row : AreInRow places

-- a run has some entries, and its first block and its last have the first and the last of them
pub record IsRun (places : List BlockPlace) (run : Run) : Type 0 where
  pub some : run.from < run.upto
  pub begins : HasEntry places run.first run.from
  pub ends : HasEntry places run.last (run.upto - 1)

-- how many bytes of the file a run takes, from its first word to its last
abbrev pub run_length : Run → ℕ
run_length run = place_of_word run.last run.upto - place_of_word run.first run.from

-- a run from this entry on, up to the end of a block or of the range, that takes at most so many bytes
pub record RunsFrom (places : List BlockPlace) (at b most : ℕ) (run : Run) : Type 0 where
  pub is_run : IsRun places run
  pub from : run.from ≡ at
  pub upto : run.upto ≡ min b (entries_at (take (run.last + 1) places))
  pub fits : run_length run ≤ most

-- a run goes on by the next block, up to its end or to the end of the range
pub record GoesOn (places : List BlockPlace) (b : ℕ) (old new : Run) : Type 0 where
  pub is_run : IsRun places new
  pub from : new.from ≡ old.from
  pub upto : new.upto ≡ min b (entries_at (take (new.last + 1) places))
  pub longer : old.upto < new.upto

-- at the places of the words of each block the file has those of its entries of the log
abbrev pub HasWords : List BlockPlace → List ℕ → List Edge → Type 0
HasWords places file log = (i at n : ℕ) → HasEntry places i at → at + n ≤ entries_at (take (i + 1) places)
    → entries_in n (drop (place_of_word i at) file) ≡ take n (drop at log)

-- so many entries were added behind those that there were
pub record AddsCount (n : ℕ) (old new : List Edge) : Type 0 where
  pub so_many : length new ≡ length old + n
  pub front_stays : take (length old) new ≡ old
