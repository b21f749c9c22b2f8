-- Loads of the durable front, and words that are read ahead of their turn.
use Rattle.std.proofs.Common.{◌≡◌, ℕ, ◌+◌, ◌<◌, ◌≤◌, true, false, List, map, set, refl, inl, inr, ⊎_elim, arith}
use Rattle.std.specs.Prelude.{max}
use Rattle.std.proofs.lemmas.Bool.{cases_lt}
use Rattle.std.proofs.lemmas.List.Elements.{All-push}
use mathlib.Core.Option.{some}
use lib.ListN.{get_elem?}
use Rattle.go_word.specs.declared.edge.Edge.{Edge}
use Rattle.go_core.specs.declared.view.View.{View}
use Rattle.go_core.specs.Frame.{Frame, slot, durable_in, released}
use Rattle.go_core.specs.View.{assured, knowing_durable, ending, read_ahead}
use Rattle.go_core.specs.Acts.{CanReadAhead}
use Rattle.go_core.specs.Rule.{IsWritten, IsSound, TiedBy}
use Rattle.go_core.proofs.Lookups.{lookup-some}
use Rattle.go_core.proofs.Moved.{view_keeps}
use Rattle.go_core.proofs.Loads.{Reading, after_reading, front_read, below_both, still_live, loads_after, written_or_not}

-- what a load of the durable front leaves, by which all up to an end is seen
abbrev after_durable : ℕ → ℕ → View → Reading
after_durable front seen v = record { seen = seen; marked = v.marked; archived = v.archived; durable = front; loads = map (assured front) v.loads }

durable_read : (f : Frame) (log : List Edge) (words : List ℕ) (views : List View) (i : ℕ) (v : View) (seen : ℕ) → get_elem? views i ≡ some v → v.live ≡ true
    → v.seen ≤ seen
    → ((p : ℕ) → p < seen → IsWritten log views p) → TiedBy f log words views
    → TiedBy f log words (set views i (after_reading (after_durable (durable_in words) seen v) v))
durable_read f log words views i v seen there live more written tied =
    let s = tied.seated i v there in
    let front = durable_in words in
    front_read f log words views i v (after_durable front seen v) there live more
    (record { marked_to = let noted = s.sees.marked_to in omega arith; written = written })
    (record { head_to = s.knows.head_to; archived_to = s.knows.archived_to; durable_to = omega arith })
    (record { archiver = s.works.archiver; flusher = record { knows = λ role. refl; took = s.works.flusher.took } })
    (loads_after f log words views front v.seen v.marked v.loads false (omega arith) s.reads) tied

-- a load of the durable front
pub durable_loaded : (f : Frame) (log : List Edge) (words : List ℕ) (views : List View) (i : ℕ) (v : View) → get_elem? views i ≡ some v → v.live ≡ true
    → TiedBy f log words views → TiedBy f log words (set views i (knowing_durable (durable_in words) v))
durable_loaded f log words views i v there live tied =
    let front = durable_in words in
    durable_read f log words views i v (max v.seen front) there live (omega arith)
    (below_both log views v.seen front (tied.seated i v there).sees.written tied.ringed.durable.written) tied

-- one after which what was copied up to an end counts as seen
pub durable_ended : (f : Frame) (log : List Edge) (words : List ℕ) (views : List View) (i : ℕ) (v : View) (end : ℕ) → get_elem? views i ≡ some v → v.live ≡ true
    → ((p : ℕ) → p < end → IsWritten log views p) → TiedBy f log words views → TiedBy f log words (set views i (ending (durable_in words) end v))
durable_ended f log words views i v end there live written tied =
    let front = durable_in words in
    durable_read f log words views i v (max (max v.seen front) end) there live (omega arith)
    (below_both log views (max v.seen front) end
    (below_both log views v.seen front (tied.seated i v there).sees.written tied.ringed.durable.written) written) tied

-- a word within the window, read now, is the log's or it isn't there yet
pub told : (f : Frame) (log : List Edge) (words : List ℕ) (views : List View) (marked p : ℕ) → TiedBy f log words views
    → ((q : ℕ) → q < marked → IsWritten log views q) → p < released words + f.slots
    → IsSound f log words views marked (record { at = p; word = slot f words p; sure = false })
told f log words views marked p tied all_seen to =
    let r = tied.ringed in
    ⊎_elim (λ (late : p < released words). inl (refl, late))
    (λ (from : released words ≤ p).
    ⊎_elim
    (λ written.
    let found = lookup-some log p written.within in
    inr (inl (found.0, found.1, r.holds p found.0 from to written found.1, written)))
    (λ not.
    let unseen : marked ≤ p = ⊎_elim (λ (less : p < marked). absurd (not (all_seen p less))) (λ over. over) (cases_lt p marked) in
    inr (inr (r.waits p from to not, unseen))) (written_or_not log views p)) (cases_lt p (released words))

-- a word that is read ahead, within the window that the party knows, is sound
pub tentative_loaded : (f : Frame) (log : List Edge) (words : List ℕ) (views : List View) (i : ℕ) (v : View) (p : ℕ) → get_elem? views i ≡ some v
    → v.live ≡ true → CanReadAhead f.slots v p → TiedBy f log words views
    → TiedBy f log words (set views i (read_ahead p (slot f words p) v))
tentative_loaded f log words views i v p there live can tied =
    let s = tied.seated i v there in
    let noted = s.sees.marked_to in
    let archived = s.knows.archived_to in
    let durable = s.knows.durable_to in
    let to = can.to in
    view_keeps f log words views i v (read_ahead p (slot f words p) v) there
    (record { unfilled = λ q. refl; stands = λ q. refl; archives = refl; flushes = refl }) (record { disk = refl; memory = refl })
    (record {
      ended = λ dead. still_live v _ live dead;
      takes = s.takes;
      sees = s.sees;
      knows = s.knows;
      works = s.works;
      owes = s.owes;
      owns = s.owns;
      reads =
          All-push (IsSound f log words views v.marked) v.loads _ s.reads
          (told f log words views v.marked p tied (λ q less. s.sees.written q (omega arith)) (omega arith));
    }) tied
