-- Steps that change no word: loads of the log's length and of the archived front, and words read in order.
use Rattle.std.proofs.Common.{◌≡◌, ℕ, ◌+◌, ◌-◌, ◌<◌, ◌≤◌, ◌⊎◌, Bool, true, false, cond, List, [], length, set, map, sym, refl, ap, ◌∙◌, inl, inr, ⊎_elim}
use Rattle.std.proofs.Common.{arith, subst}
use Rattle.std.specs.Prelude.{All, max, ◌||◌, nat_le, if◌then◌else◌}
use Rattle.std.proofs.lemmas.Bool.{cases_eq, cases_lt, both_ways}
use Rattle.std.proofs.lemmas.Bool.Decides.{nat_tests}
use Rattle.std.proofs.lemmas.List.Elements.{All-nil, All-weaker, All-map}
use Rattle.std.proofs.Math.Nat.{eq-or-lt_of_le}
use mathlib.Core.Option.{some}
use lib.ListN.{get_elem?}
use Rattle.go_word.specs.declared.edge.Edge.{Edge}
use Rattle.go_word.specs.Word.{word, is_matched, decode}
use Rattle.go_word.proofs.WordLaws.{decode-word}
use Rattle.go_core.specs.declared.entry.Load.{Load}
use Rattle.go_core.specs.declared.view.View.{View}
use Rattle.go_core.specs.Frame.{Frame, slot, head_in, archived_in, released}
use Rattle.go_core.specs.View.{assured, unmoved, knowing_head, knowing_archived, took}
use Rattle.go_core.specs.Rule.{owed, IsWritten, IsSound, Ringed, Sees, Knows, Works, Reads, Seated, TiedBy}
use Rattle.go_core.proofs.Lookups.{lookup-some}
use Rattle.go_core.proofs.Moved.{next_lap, view_keeps}

-- a live view isn't a spent one
pub still_live : (v : View) (P : Type 0) → v.live ≡ true → v.live ≡ false → P
still_live v P live dead = absurd (both_ways v.live dead live)

-- a step that told the party nothing
pub unmoved_seated : (f : Frame) (log : List Edge) (words : List ℕ) (views : List View) (v : View) → v.live ≡ true → Seated f log words views v
    → Seated f log words views (unmoved v)
unmoved_seated f log words views v live s =
    record {
      ended = λ dead. still_live v _ live dead;
      takes = s.takes;
      sees = s.sees;
      knows = s.knows;
      works = s.works;
      owes = s.owes;
      owns = s.owns;
      reads = s.reads;
    }

pub unmoved_keeps : (f : Frame) (log : List Edge) (words : List ℕ) (views : List View) (i : ℕ) (v : View) → get_elem? views i ≡ some v → v.live ≡ true
    → TiedBy f log words views → TiedBy f log words (set views i (unmoved v))
unmoved_keeps f log words views i v there live tied =
    view_keeps f log words views i v (unmoved v) there
    (record { unfilled = λ p. refl; stands = λ p. refl; archives = refl; flushes = refl }) (record { disk = refl; memory = refl })
    (unmoved_seated f log words views v live (tied.seated i v there)) tied

-- a load of the log's length
pub head_loaded : (f : Frame) (log : List Edge) (words : List ℕ) (views : List View) (i : ℕ) (v : View) → get_elem? views i ≡ some v → v.live ≡ true
    → TiedBy f log words views → TiedBy f log words (set views i (knowing_head (head_in words) v))
head_loaded f log words views i v there live tied =
    let s = tied.seated i v there in
    let now = tied.ringed.shape.head in
    view_keeps f log words views i v (knowing_head (head_in words) v) there
    (record { unfilled = λ p. refl; stands = λ p. refl; archives = refl; flushes = refl }) (record { disk = refl; memory = refl })
    (record {
      ended = λ dead. still_live v _ live dead;
      takes = s.takes;
      sees = s.sees;
      knows = record { head_to = omega arith; archived_to = s.knows.archived_to; durable_to = s.knows.durable_to };
      works = s.works;
      owes = s.owes;
      owns = s.owns;
      reads = s.reads;
    }) tied

-- what is below one of two numbers is below the one or the other
pub below_max : (p a b : ℕ) → p < max a b → (p < a) ⊎ (p < b)
below_max p a b less = ⊎_elim (λ under. inl under) (λ over. inr (omega arith)) (cases_lt p a)

-- a word that was read ahead stays sound where it becomes sure by a front
sound_assured : (f : Frame) (log : List Edge) (words : List ℕ) (views : List View) (marked front : ℕ) → released words ≤ front → (l : Load)
    → IsSound f log words views marked l → IsSound f log words views marked (assured front l)
sound_assured f log words views marked front above l sound =
    ⊎_elim
    (λ late.
    let before : l.at < released words = late.1 in
    let less : nat_le front l.at ≡ false = over front l.at (omega arith) in
    inl (either l.sure (nat_le front l.at) late.0 less, before))
    (λ tells. inr tells) sound
  where
    over : (a b : ℕ) → b < a → nat_le a b ≡ false
    over a b less = grind (arith, nat_tests)

    either : (a b : Bool) → a ≡ false → b ≡ false → (a || b) ≡ false
    either a b one two = rw (one, two) refl

-- the loads after a load of the archived front
pub loads_after : (f : Frame) (log : List Edge) (words : List ℕ) (views : List View) (front new old : ℕ) (ls : List Load) (fresh : Bool)
    → released words ≤ front → All (IsSound f log words views old) ls
    → All (IsSound f log words views (cond fresh new old)) (cond fresh [] (map (assured front) ls))
loads_after f log words views front new old ls true above all = All-nil (IsSound f log words views new)
loads_after f log words views front new old ls false above all =
    All-map (IsSound f log words views old) (assured front) ls
    (All-weaker (IsSound f log words views old) (λ l. IsSound f log words views old (assured front l))
    (λ l sound. sound_assured f log words views old front above l sound) ls all)

-- the noted seen length stays within the seen one
marked_after : (seen front marked : ℕ) (fresh : Bool) → marked ≤ seen → cond fresh (max seen front) marked ≤ max seen front
marked_after seen front marked true noted = omega arith
marked_after seen front marked false noted = omega arith

-- what a load of a front leaves of a view: what it has seen, noted and knows, and the loads of its copy
pub record Reading : Type 0 where
  pub seen : ℕ
  pub marked : ℕ
  pub archived : ℕ
  pub durable : ℕ
  pub loads : List Load

abbrev pub after_reading : Reading → View → View
after_reading r v = record v { seen = r.seen; archived = r.archived; durable = r.durable; loads = r.loads; marked = r.marked; fresh = false }

-- a party read a front, and saw no less than before, all of it written
pub front_read : (f : Frame) (log : List Edge) (words : List ℕ) (views : List View) (i : ℕ) (v : View) (r : Reading) → get_elem? views i ≡ some v
    → v.live ≡ true
    → v.seen ≤ r.seen → Sees log views r.seen r.marked → Knows log words v.head r.archived r.durable
    → Works words v.archives v.flushes r.archived r.durable v.taken
    → Reads f log words views r.marked r.loads → TiedBy f log words views → TiedBy f log words (set views i (after_reading r v))
front_read f log words views i v r there live more sees knows works reads tied =
    let s = tied.seated i v there in
    let taken = s.takes.to in
    view_keeps f log words views i v (after_reading r v) there
    (record { unfilled = λ p. refl; stands = λ p. refl; archives = refl; flushes = refl }) (record { disk = refl; memory = refl })
    (record {
      ended = λ dead. still_live v _ live dead;
      takes = record { from = s.takes.from; to = omega arith };
      sees = sees;
      knows = knows;
      works = works;
      owes = s.owes;
      owns = s.owns;
      reads = reads;
    }) tied

-- what lies below the greater of two numbers is written where it is below each
pub below_both : (log : List Edge) (views : List View) (a b : ℕ) → ((p : ℕ) → p < a → IsWritten log views p) → ((p : ℕ) → p < b → IsWritten log views p)
    → (p : ℕ) → p < max a b → IsWritten log views p
below_both log views a b one two p less = ⊎_elim (λ first. one p first) (λ second. two p second) (below_max p a b less)

-- a load of the archived front
pub archived_loaded : (f : Frame) (log : List Edge) (words : List ℕ) (views : List View) (i : ℕ) (v : View) → get_elem? views i ≡ some v → v.live ≡ true
    → TiedBy f log words views → TiedBy f log words (set views i (knowing_archived (archived_in words) v))
archived_loaded f log words views i v there live tied =
    let s = tied.seated i v there in
    let front = archived_in words in
    front_read f log words views i v
    (record {
      seen = max v.seen front;
      marked = if v.fresh then max v.seen front else v.marked;
      archived = front;
      durable = v.durable;
      loads =
          if v.fresh then [] else map (assured front) v.loads;
    })
    there live (omega arith)
    (record {
      marked_to = marked_after v.seen front v.marked v.fresh s.sees.marked_to;
      written =
          below_both log views v.seen front s.sees.written tied.ringed.archived.written;
    })
    (record { head_to = s.knows.head_to; archived_to = omega arith; durable_to = s.knows.durable_to })
    (record { archiver = record { knows = λ role. refl; took = s.works.archiver.took }; flusher = s.works.flusher })
    (loads_after f log words views front (max v.seen front) v.marked v.loads v.fresh (omega arith) s.reads) tied

-- a position is written or it isn't
pub written_or_not : (log : List Edge) (views : List View) (p : ℕ) → IsWritten log views p ⊎ (IsWritten log views p → ⊥)
written_or_not log views p =
    ⊎_elim
    (λ (less : p < length log).
    ⊎_elim (λ (none : owed views p ≡ 0). inl (record { within = less; filled = none }))
    (λ (some' : owed views p ≡ 0 → ⊥). inr (λ written. some' written.filled)) (cases_eq (owed views p) 0))
    (λ (over : length log ≤ p). inr (λ written. let less = written.within in omega arith)) (cases_lt p (length log))

-- a matched word at the next position of a seen stretch is the log's there
pub record IsNext (f : Frame) (log : List Edge) (words : List ℕ) (views : List View) (p : ℕ) : Type 0 where
  pub edge : Edge
  pub there : get_elem? log p ≡ some edge
  pub written : IsWritten log views p
  pub is : slot f words p ≡ word f.slots p edge

-- within the window its slot says so
pub in_window : (f : Frame) (log : List Edge) (words : List ℕ) (views : List View) (p : ℕ) → Ringed f log words views → released words ≤ p
    → p < released words + f.slots → is_matched f.slots p (slot f words p) ≡ true → IsNext f log words views p
in_window f log words views p r from to matched =
    ⊎_elim
    (λ (written : IsWritten log views p).
    let found = lookup-some log p written.within in
    record { edge = found.0; there = found.1; written = written; is = r.holds p found.0 from to written found.1 })
    (λ (not : IsWritten log views p → ⊥).
    let unmatched : is_matched f.slots p (slot f words p) ≡ false = r.waits p from to not in
    absurd (both_ways (is_matched f.slots p (slot f words p)) unmatched matched))
    (written_or_not log views p)

-- and past it a seen position is none: right there the slot still holds the word of the lap before
pub matched_is : (f : Frame) (log : List Edge) (words : List ℕ) (views : List View) (p seen : ℕ) → TiedBy f log words views
    → ((q : ℕ) → q < seen → IsWritten log views q) → p ≤ seen → released words ≤ p → is_matched f.slots p (slot f words p) ≡ true → IsNext f log words views p
matched_is f log words views p seen tied all_seen up_to from matched =
    let r = tied.ringed in
    let some_slots = r.shape.some_slots in
    ⊎_elim (λ (inside : p < released words + f.slots). in_window f log words views p r from inside matched)
    (λ (outside : released words + f.slots ≤ p).
    let before : p - 1 < seen = omega arith in
    let written = all_seen (p - 1) before in
    let within = written.within in
    let filled = written.filled in
    let edge : p ≤ released words + f.slots =
    ⊎_elim (λ (far : released words + f.slots < p). let owes : 0 < owed views (p - 1) = r.beyond (p - 1) (omega arith) within in omega arith) (λ near. near)
    (cases_lt (released words + f.slots) p)
    in
    let is : p ≡ released words + f.slots = omega arith in
    let first = all_seen (released words) (omega arith) in
    let unmatched = next_lap f log words views (released words) tied.storable r (omega arith) (omega arith) first in
    let here : is_matched f.slots p (slot f words p) ≡ false = ap (λ k. is_matched f.slots k (slot f words k)) is ∙ unmatched in
    absurd (both_ways (is_matched f.slots p (slot f words p)) here matched)) (cases_lt p (released words + f.slots))

-- a word read in order is the log's where it is matched
pub matched-decode : (f : Frame) (log : List Edge) (words : List ℕ) (views : List View) (p : ℕ) → TiedBy f log words views → f.first ≤ p
    → (next : IsNext f log words views p) → decode (slot f words p) ≡ next.edge
matched-decode f log words views p tied from next = ap decode next.is ∙ decode-word f.slots p next.edge (tied.storable p next.edge from next.there)

-- a word was read in order and is the log's: it is seen and taken
pub taken_next : (f : Frame) (log : List Edge) (words : List ℕ) (views : List View) (i : ℕ) (v : View) (p : ℕ) → get_elem? views i ≡ some v → v.live ≡ true
    → p ≤ v.taken → IsWritten log views p → TiedBy f log words views → TiedBy f log words (set views i (took p v))
taken_next f log words views i v p there live up_to written tied =
    let s = tied.seated i v there in
    let taken = s.takes.to in
    view_keeps f log words views i v (took p v) there
    (record { unfilled = λ p. refl; stands = λ p. refl; archives = refl; flushes = refl }) (record { disk = refl; memory = refl })
    (record {
      ended = λ dead. still_live v _ live dead;
      takes = record { from = λ l. let old = s.takes.from l in omega arith; to = omega arith };
      sees = record {
        marked_to = let noted = s.sees.marked_to in omega arith;
        written = λ q less.
            ⊎_elim (λ seen. s.sees.written q seen)
            (λ (next : q < p + 1).
            ⊎_elim (λ (here : q ≡ p). subst (λ k. IsWritten log views k) (sym here) written) (λ (before : q < p). s.sees.written q (omega arith))
            (eq-or-lt_of_le (le_of_suc q p next)))
            (below_max q v.seen (p + 1) less);
      };
      knows = s.knows;
      works = record {
        archiver = record { knows = s.works.archiver.knows; took = λ role. let old = s.works.archiver.took role in omega arith };
        flusher = record { knows = s.works.flusher.knows; took = λ role. let old = s.works.flusher.took role in omega arith };
      };
      owes = s.owes;
      owns = s.owns;
      reads = s.reads;
    }) tied
  where
    le_of_suc : (q p : ℕ) → q < p + 1 → q ≤ p
    le_of_suc q p less = omega arith
