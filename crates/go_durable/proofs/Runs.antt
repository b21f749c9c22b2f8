-- Runs of blocks: in which order they stand, how they go on, and what is read of one.
use Rattle.std.proofs.Common.{◌≡◌, inl, inr, ℕ, ◌+◌, ◌-◌, ◌*◌, ◌<◌, ◌≤◌, List, ◌++◌, length, take, drop, sym, ap, subst, ◌∙◌, arith}
use Rattle.std.specs.Prelude.{min}
use Rattle.std.proofs.lemmas.Bool.{cases_lt}
use Rattle.std.proofs.lemmas.List.{take_all, take-take}
use Rattle.std.proofs.lemmas.List.Sums.{sum_by-take-le}
use Rattle.go_word.specs.declared.edge.Edge.{Edge}
use Rattle.go_blocks.specs.declared.layout.TheConstants.{COUNT_LIMIT}
use Rattle.go_blocks.specs.declared.log_file.BlockPlace.{BlockPlace}
use Rattle.go_disk.specs.Disk.{Shows}
use Rattle.go_durable.specs.LogState.{AreInRow, entries_at}
use Rattle.go_durable.specs.Ranging.{HasEntry, AddsRange, entries_in}
use Rattle.go_durable.specs.Runs.{AreBlocks, GoesOn, HasWords, IsRun, place_of_word, run_length}
use Rattle.go_durable.specs.declared.run.Run.{Run}
use Rattle.go_durable.proofs.RangeSteps.{no_place, next_entries}
use Rattle.go_durable.proofs.Ranges.{taken_words}

-- the earlier blocks have no more entries
entries_grow : (places : List BlockPlace) (i j : ℕ) → i ≤ j → entries_at (take i places) ≤ entries_at (take j places)
entries_grow places i j le =
    subst (λ (l : List BlockPlace). entries_at l ≤ entries_at (take j places)) (take-take i j places le) (sum_by-take-le (λ p. p.count) (take j places) i)

-- an entry that stands before the end of a block stands in it or in an earlier one
pub not_behind : (places : List BlockPlace) (i j entry : ℕ) → HasEntry places i entry → entry < entries_at (take (j + 1) places) → i ≤ j
not_behind places i j entry here below = elim (cases_lt j i) as (λ _. i ≤ j) [
  | inl lt ↦ absurd (omega (arith, here.begins, below, entries_grow places (j + 1) i (omega (arith, lt))))
  | inr le ↦ le
]

-- a block's entries are entries of the log
pub up_to_within : (places : List BlockPlace) (i : ℕ) → entries_at (take i places) ≤ entries_at places
up_to_within places i = sum_by-take-le (λ p. p.count) places i

-- what is so of the numbers of a run
pub record HasBounds (places : List BlockPlace) (run : Run) : Type 0 where
  pub order : run.first ≤ run.last
  pub blocks : run.last < length places
  pub begins : entries_at (take run.last places) < run.upto
  pub ends : run.upto ≤ entries_at (take (run.last + 1) places)
  pub entries : run.upto ≤ entries_at places

-- they follow from what its first block and its last have
pub run_bounds : (places : List BlockPlace) (run : Run) → IsRun places run → HasBounds places run
run_bounds places run is =
    let ends : run.upto ≤ entries_at (take (run.last + 1) places) = omega (arith, is.some, is.ends.ends) in
    record {
      order = not_behind places run.first run.last run.from is.begins (omega (arith, is.some, ends));
      blocks = is.ends.within;
      begins = omega (arith, is.some, is.ends.begins);
      ends = ends;
      entries = omega (arith, ends, up_to_within places (run.last + 1));
    }

-- behind the end of a block the next one has the next entry, where there is one
pub next_has : (places : List BlockPlace) (i entry b : ℕ) → AreInRow places → b ≤ entries_at places
    → entry ≡ min b (entries_at (take (i + 1) places)) → entry < b → HasEntry places (i + 1) entry
next_has places i entry b in_row within is left =
    let at_end : entry ≡ entries_at (take (i + 1) places) = omega (arith, is, left) in
    let below : i + 1 < length places = elim (cases_lt (i + 1) (length places)) as (λ _. i + 1 < length places) [
      | inl lt ↦ lt
      | inr le ↦ absurd (omega (arith, ap entries_at (take_all (i + 1) places le), at_end, left, within))
    ] in
    record {
      within = below;
      begins = omega (arith, at_end);
      ends = omega (arith, at_end, next_entries places (i + 1) below, (in_row (i + 1) no_place below).some);
    }

-- the entries of a block from one on, up to its end or to the end of the range, are a run
pub one_block : (places : List BlockPlace) (run : Run) (b : ℕ) → HasEntry places run.first run.from → run.from < b → run.last ≡ run.first
    → run.upto ≡ min b (entries_at (take (run.first + 1) places)) → IsRun places run
one_block places run b here order last upto =
    let some : run.from < run.upto = omega (arith, here.ends, order, upto) in
    record {
      some = some;
      begins = here;
      ends = subst (λ (i : ℕ). HasEntry places i (run.upto - 1)) (sym last)
          (record { within = here.within; begins = omega (arith, here.begins, some); ends = omega (arith, upto, some) });
    }

-- and it takes no more bytes than the words of a full block
pub one_block_fits : (places : List BlockPlace) (run : Run) (b most : ℕ) → AreBlocks places → HasEntry places run.first run.from → run.last ≡ run.first
    → run.upto ≡ min b (entries_at (take (run.first + 1) places)) → 8 * min (b - run.from) COUNT_LIMIT ≤ most → run_length run ≤ most
one_block_fits places run b most blocks here last upto fits =
    omega (arith, here.begins, last, upto, fits, next_entries places run.first here.within, (blocks.placed run.first no_place here.within).few)

-- a run goes on by the next block
pub run_goes_on : (places : List BlockPlace) (old new : Run) (b : ℕ) → AreBlocks places → IsRun places old
    → old.upto ≡ entries_at (take (old.last + 1) places) → old.upto < b → b ≤ entries_at places → new.first ≡ old.first → new.from ≡ old.from
    → new.last ≡ old.last + 1 → new.upto ≡ min b (entries_at (take (new.last + 1) places)) → GoesOn places b old new
run_goes_on places old new b blocks is at_end left within first from last upto =
    let here : HasEntry places new.last old.upto =
    subst (λ (i : ℕ). HasEntry places i old.upto) (sym last) (next_has places old.last old.upto b blocks.in_row within (omega (arith, at_end, left)) left) in
    let longer : old.upto < new.upto = omega (arith, here.ends, left, upto) in
    record {
      is_run = record {
        some = omega (arith, is.some, longer, from);
        begins = subst (λ (i : ℕ). HasEntry places i new.from) (sym first) (subst (HasEntry places old.first) (sym from) is.begins);
        ends = record { within = here.within; begins = omega (arith, here.begins, longer); ends = omega (arith, upto, longer) };
      };
      from = from;
      upto = upto;
      longer = longer;
    }

-- among the bytes of a run so many words stand behind these: those of a stretch of the block of this number
pub record IsPiece (places : List BlockPlace) (run : Run) (bytes : List ℕ) (i at n skip : ℕ) : Type 0 where
  pub here : HasEntry places i at
  pub ends : at + n ≤ entries_at (take (i + 1) places)
  pub stands : place_of_word run.first run.from + skip ≡ place_of_word i at
  pub long : skip + 8 * n ≤ length bytes

-- they are read as its entries of the log
pub piece_added : (places : List BlockPlace) (run : Run) (bytes : List ℕ) (i at n skip : ℕ) → IsPiece places run bytes i at n skip
    → (file : List ℕ) (log mid new : List Edge) → HasWords places file log → Shows file (place_of_word run.first run.from) bytes
    → new ≡ mid ++ entries_in n (take (8 * n) (drop skip bytes)) → AddsRange log at (at + n) mid new
piece_added places run bytes i at n skip piece file log mid new has shows added =
    let from : ℕ = place_of_word run.first run.from in
    let read : entries_in n (take (8 * n) (drop skip bytes)) ≡ entries_in n (drop (from + skip) file) =
    ap (λ (l : List ℕ). entries_in n (take (8 * n) (drop skip l))) shows.shown
    ∙ taken_words n skip from (length bytes) file (omega (arith, ap length shows.shown, piece.long)) in
    record {
      added = added ∙ ap (λ (l : List Edge). mid ++ l)
          (read ∙ ap (λ (k : ℕ). entries_in n (drop k file)) piece.stands ∙ has i at n piece.here piece.ends
          ∙ ap (λ (k : ℕ). take k (drop at log)) (omega arith));
    }
