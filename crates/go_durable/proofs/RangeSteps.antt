-- How reading a range goes on: entries that were added, and a disk that was only looked at.
use Rattle.std.proofs.Common.{◌≡◌, ℕ, ◌+◌, ◌-◌, ◌<◌, ◌≤◌, List, ◌∷◌, ◌++◌, length, get_or, take, drop, refl, sym, ap}
use Rattle.std.proofs.Common.{subst, ◌∙◌, append_assoc, length-append, arith}
use Rattle.std.specs.Prelude.{All, IfSome, Option, None, Some}
use Rattle.std.proofs.lemmas.List.{take_at, take_more, take-take, length-take, length-drop}
use Rattle.std.proofs.lemmas.Option.{slice_get-get_or}
use Rattle.std.proofs.lemmas.List.Elements.{All-take, All-drop}
use Rattle.std.proofs.lemmas.List.Sums.{sum_by_push, sum_by-take-drop}
use Rattle.go_word.specs.declared.edge.Edge.{Edge}
use Rattle.go_word.specs.Log.{IsWithin}
use Rattle.go_blocks.specs.declared.layout.TheConstants.{CLOSED, FIRST_GATE}
use Rattle.go_blocks.specs.declared.log_file.BlockPlace.{BlockPlace}
use Rattle.go_blocks.specs.File.{IsClosedBy}
use Rattle.go_disk.specs.Device.{Device}
use Rattle.go_disk.specs.Disk.{Looks}
use Rattle.go_durable.specs.LogState.{LogState, AreInRow, entries_at, entries_of_place}
use Rattle.go_durable.specs.Ranging.{AddsRange, entries_in}
use Rattle.go_durable.specs.Moments.{LeavesOnly}
use Rattle.go_durable.specs.Runs.{AddsCount, HasWords}
use Rattle.go_durable.specs.Standing.{IsLog}
use Rattle.go_durable.specs.Writing.{IsThere}
use Rattle.go_durable.proofs.Attached.{places_have_all}
use Rattle.go_durable.proofs.Moments.{joined, weaker}
use Rattle.go_durable.proofs.Places.{log_places}
use Rattle.go_durable.proofs.Ranges.{piece_of_place, inside_stretch, stretch_on}
use Rattle.go_durable.proofs.Standing.{log_within}

-- the place that stands for none
abbrev pub no_place : BlockPlace
no_place = record { gate = 0; count = 0 }

-- a range goes on by the next
pub ranges_join : (log : List Edge) (a at b : ℕ) (before mid new : List Edge) → a ≤ at → at ≤ b → AddsRange log a at before mid → AddsRange log at b mid new
    → AddsRange log a b before new
ranges_join log a at b before mid new from upto first second = record {
  added = second.added ∙ ap (λ (l : List Edge). l ++ take (b - at) (drop at log)) first.added
      ∙ append_assoc before (take (at - a) (drop a log)) (take (b - at) (drop at log))
      ∙ ap (λ (l : List Edge). before ++ l)
      (stretch_on a at (b - at) log from ∙ ap (λ (k : ℕ). take k (drop a log)) (omega (arith, from, upto)));
}

-- entries that stand behind the others are so many
pub count_added : (n : ℕ) (mid new more : List Edge) → new ≡ mid ++ more → length more ≡ n → AddsCount n mid new
count_added n mid new more added many = record {
  so_many = omega (arith, ap length added, length-append mid more, many);
  front_stays = ap (take (length mid)) added ∙ take_at mid more (length mid) refl;
}

-- so many entries, and then others
pub counts_join : (m n k : ℕ) (before mid new : List Edge) → AddsCount m before mid → AddsCount n mid new → k ≡ m + n → AddsCount k before new
counts_join m n k before mid new first second all = record {
  so_many = omega (arith, first.so_many, second.so_many, all);
  front_stays = sym (take-take (length before) (length mid) new (omega (arith, first.so_many))) ∙ ap (take (length before)) second.front_stays
      ∙ first.front_stays;
}

-- one place more
pub next_entries : (places : List BlockPlace) (i : ℕ) → i < length places
    → entries_at (take (i + 1) places) ≡ entries_at (take i places) + (get_or places i no_place).count
next_entries places i below =
    ap entries_at (take_more places i no_place below) ∙ sum_by_push (λ p. p.count) (take i places) (get_or places i no_place)

-- what holds where the disk tells
pub if_told : (o : Option (List ℕ)) (P Q : List ℕ → Type 0) → ((bytes : List ℕ) → o ≡ Some bytes → P bytes → Q bytes) → IfSome o P → IfSome o Q
if_told None P Q gives p = tt
if_told (Some bytes) P Q gives p = gives bytes refl p

-- and what holds of two facts
pub if_both : (o : Option (List ℕ)) (P Q R : List ℕ → Type 0) → ((bytes : List ℕ) → P bytes → Q bytes → R bytes) → IfSome o P → IfSome o Q → IfSome o R
if_both None P Q R gives p q = tt
if_both (Some bytes) P Q R gives p q = gives bytes p q

module _ {D : Type 0} (device : Device D) where
  -- the disk was looked at, and then again
  pub looks_more : (old mid new : D) → Looks device old mid → Looks device mid new → Looks device old new
  looks_more old mid new first second = record {
    contents = second.contents ∙ first.contents;
    base = second.base ∙ first.base;
    images = λ image is. first.images image (second.images image is);
    syncs = second.syncs ∙ first.syncs;
  }

  -- and no image is new
  pub leaves_more : (old mid new : D) → Looks device old mid → LeavesOnly device old mid (device.images old) → LeavesOnly device mid new (device.images mid)
      → LeavesOnly device old new (device.images old)
  leaves_more old mid new looks first second =
      joined device old mid new (device.images old) first
      (weaker device mid new (device.images mid) (device.images old) (λ image is. looks.images image is) second)

  -- up to the closed gate of a log all is there
  pub log_is_there : (state : LogState D) (log : List Edge) → IsLog device state log → IsThere (device.contents state.disk) state.gate
  log_is_there state log is = there (device.contents state.disk) is.shut.closed where
    there : (o : Option (List ℕ)) → IfSome o (IsClosedBy is.bytes) → IfSome o (λ bytes. state.gate ≤ length bytes)
    there None closed = tt
    there (Some bytes) closed = omega (arith, is.gate_is, ap length closed.parts, length-append is.bytes (CLOSED ∷ closed.rest))

  -- a log's places have just its entries
  all_entries : (state : LogState D) (log : List Edge) → IsLog device state log → entries_at state.places ≡ length log
  all_entries state log is = ap entries_at is.places_are ∙ places_have_all FIRST_GATE is.blocks ∙ ap length (sym is.entries)

  -- the entries up to a block's end are entries of the log
  ends_within : (places : List BlockPlace) (i : ℕ) → i < length places → entries_at (take i places) + (get_or places i no_place).count ≤ entries_at places
  ends_within places i below = omega (arith, next_entries places i below, sum_by-take-drop (λ p. p.count) places (i + 1))

  -- the file of a log has its words
  pub log_has_words : (state : LogState D) (log : List Edge) → IsLog device state log → (file : List ℕ) → AreInRow state.places
      → device.contents state.disk ≡ Some file → HasWords state.places file log
  log_has_words state log is file in_row told = λ i at n here ends.
      let place : BlockPlace = get_or state.places i no_place in
      let start : ℕ = entries_at (take i state.places) in
      let es : List Edge = entries_of_place state.places i place log in
      let within : All (IsWithin state.vertices) es =
      All-take (IsWithin state.vertices) place.count (drop start log) (All-drop (IsWithin state.vertices) start log (log_within device state log is)) in
      let size : length es ≡ place.count =
      omega (arith, length-take place.count (drop start log), length-drop start log, all_entries state log is, ends_within state.places i here.within) in
      let next = next_entries state.places i here.within in
      let words = log_places device state log file i place is told (slice_get-get_or state.places i no_place here.within) in
      ap (λ (k : ℕ). entries_in n (drop k file)) (omega (arith, (in_row i no_place here.within).gate_is, here.begins))
      ∙ piece_of_place state.vertices place file es (at - start) n is.has_blocks.vertices.few within size words (omega (arith, here.begins, ends, next))
      ∙ inside_stretch start place.count (at - start) n log (omega (arith, here.begins, ends, next))
      ∙ ap (λ (k : ℕ). take n (drop k log)) (omega (arith, here.begins))

  -- what was added is a range of the log that stands there
  pub range_of_log : (state : LogState D) (log : List Edge) → IsLog device state log → AreInRow state.places → (a b : ℕ) (before after : List Edge)
      → IfSome (device.contents state.disk) (λ file. (log : List Edge) → HasWords state.places file log → AddsRange log a b before after)
      → IfSome (device.contents state.disk) (λ bytes. AddsRange log a b before after)
  range_of_log state log is in_row a b before after =
      if_told (device.contents state.disk) (λ file. (log : List Edge) → HasWords state.places file log → AddsRange log a b before after)
      (λ bytes. AddsRange log a b before after)
      (λ file told reads. reads log (log_has_words state log is file in_row told))

  -- a log that was only looked at stands as it stood
  pub looked_stands : (old : LogState D) (new : D) (log : List Edge) → IsLog device old log → Looks device old.disk new
      → IsLog device (record old { disk = new }) log
  looked_stands old new log is looks = record {
    blocks = is.blocks;
    bytes = is.bytes;
    has_blocks = is.has_blocks;
    entries = is.entries;
    so_many = is.so_many;
    gate_is = is.gate_is;
    places_are = is.places_are;
    shut = record {
      quiet = record {
        stable = looks.base ∙ is.shut.quiet.stable ∙ sym looks.contents;
        only = λ image is_image. looks.contents ∙ is.shut.quiet.only image (looks.images image is_image);
      };
      closed = subst (λ (o : Option (List ℕ)). IfSome o (IsClosedBy is.bytes)) (sym looks.contents) is.shut.closed;
    };
  }

-- what is there up to an end is there up to an earlier one
pub there_before : (contents : Option (List ℕ)) (at end : ℕ) → at ≤ end → IsThere contents end → IsThere contents at
there_before None at end le there = tt
there_before (Some bytes) at end le there = omega (arith, le, there)
