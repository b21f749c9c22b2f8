-- The rule: what ties the words of a ring and the views of its parties to one log.
use Rattle.std.specs.Prelude.{◌≡◌, ◌⊎◌, ℕ, ◌+◌, ◌<◌, ◌≤◌, Bool, true, false, List, length, count_by, sum_by, All, AllPairs}
use mathlib.Core.Option.{some}
use lib.ListN.{get_elem?}
use Rattle.go_word.specs.declared.edge.Edge.{Edge}
use Rattle.go_word.specs.Word.{IsStorable, word, is_matched}
use Rattle.go_core.specs.declared.entry.Entry.{Entry}
use Rattle.go_core.specs.declared.entry.Load.{Load}
use Rattle.go_core.specs.declared.view.View.{View}
use Rattle.go_core.specs.Frame.{Frame, slot, head_in, archived_in, durable_in, flag_in, released}
use Rattle.go_core.specs.View.{unfilled, stands, spent}

-- an entry is the log's at its position
abbrev pub IsOf : List Edge → Entry → Type 0
IsOf log x = get_elem? log x.at ≡ some x.edge

-- how many views owe the word of a position
abbrev pub owed : List View → ℕ → ℕ
owed views p = sum_by (unfilled p) views

-- a position of the log is written where no view owes its word
pub record IsWritten (log : List Edge) (views : List View) (p : ℕ) : Type 0 where
  pub within : p < length log
  pub filled : owed views p ≡ 0

-- a list of entries of its own rises in position and has the log's entries at written positions
pub record AreOwn (log : List Edge) (views : List View) (xs : List Entry) : Type 0 where
  pub rising : AllPairs (λ x y. x.at < y.at) xs
  pub of_log : All (IsOf log) xs
  pub written : All (λ x. IsWritten log views x.at) xs

-- a word that was read ahead is the log's, or it wasn't there yet and its position hadn't been seen
abbrev pub Tells : Frame → List Edge → List View → ℕ → Load → Type 0
Tells f log views marked l =
    ((e : Edge) × (get_elem? log l.at ≡ some e) × (l.word ≡ word f.slots l.at e) × IsWritten log views l.at)
    ⊎ ((is_matched f.slots l.at l.word ≡ false) × (marked ≤ l.at))

-- a word that was read ahead tells that, unless its slot may have served the next lap
abbrev pub IsSound : Frame → List Edge → List ℕ → List View → ℕ → Load → Type 0
IsSound f log words views marked l = ((l.sure ≡ false) × (l.at < released words)) ⊎ Tells f log views marked l

-- how many words there are, and that the first of them is the log's length
pub record AreWords (f : Frame) (log : List Edge) (words : List ℕ) : Type 0 where
  pub some_slots : 0 < f.slots
  pub four_words : 4 ≤ f.base
  pub all_words : length words ≡ f.base + f.slots
  pub head : head_in words ≡ length log

-- a front lies between the first position and the log's end, and each position below it is written
pub record IsFront (first : ℕ) (log : List Edge) (views : List View) (front : ℕ) : Type 0 where
  pub from : first ≤ front
  pub to : front ≤ length log
  pub written : (p : ℕ) → p < front → IsWritten log views p

-- the clauses on the fronts, on what isn't written and on the slots
pub record Ringed (f : Frame) (log : List Edge) (words : List ℕ) (views : List View) : Type 0 where
  pub shape : AreWords f log words
  pub archived : IsFront f.first log views (archived_in words)
  pub durable : IsFront f.first log views (durable_in words)
  pub beyond : (p : ℕ) → released words + f.slots ≤ p → p < length log → 0 < owed views p
  pub holds : (p : ℕ) (e : Edge) → released words ≤ p → p < released words + f.slots → IsWritten log views p → get_elem? log p ≡ some e
      → slot f words p ≡ word f.slots p e
  pub waits : (p : ℕ) → released words ≤ p → p < released words + f.slots → (IsWritten log views p → ⊥)
      → is_matched f.slots p (slot f words p) ≡ false

-- what a live view has taken goes on from the first position, and a view has seen what it has taken
pub record Takes (first : ℕ) (live : Bool) (seen taken : ℕ) : Type 0 where
  pub from : live ≡ true → first ≤ taken
  pub to : taken ≤ seen

-- what a view has seen is written, and goes on from what it had seen as its present copy began
pub record Sees (log : List Edge) (views : List View) (seen marked : ℕ) : Type 0 where
  pub marked_to : marked ≤ seen
  pub written : (p : ℕ) → p < seen → IsWritten log views p

-- the length and the fronts that a view knows are at most the present ones
pub record Knows (log : List Edge) (words : List ℕ) (head archived durable : ℕ) : Type 0 where
  pub head_to : head ≤ length log
  pub archived_to : archived ≤ archived_in words
  pub durable_to : durable ≤ durable_in words

-- who moves a front knows it as it stands, and has taken what lies before it
pub record Moves (front : ℕ) (role : Bool) (known taken : ℕ) : Type 0 where
  pub knows : role ≡ true → known ≡ front
  pub took : role ≡ true → front ≤ taken

-- by whether a view moves the one front and the other
pub record Works (words : List ℕ) (archives flushes : Bool) (archived durable taken : ℕ) : Type 0 where
  pub archiver : Moves (archived_in words) archives archived taken
  pub flusher : Moves (durable_in words) flushes durable taken

-- what a view owes is the log's, and it gave entries up only under a raised flag
pub record Owes (log : List Edge) (flag : ℕ) (pending abandoned : List Entry) : Type 0 where
  pub pending_of : All (IsOf log) pending
  pub abandoned_of : All (IsOf log) abandoned
  pub flagged : 0 < length abandoned → 0 < flag

-- a view's own entries, and those of each party that was joined into it
pub record Owns (log : List Edge) (views : List View) (entries : List Entry) (lists : List (List Entry)) : Type 0 where
  pub own : AreOwn log views entries
  pub joined : All (AreOwn log views) lists

-- the words of a copy are sound by the seen length that was noted as it began
abbrev pub Reads : Frame → List Edge → List ℕ → List View → ℕ → List Load → Type 0
Reads f log words views marked loads = All (IsSound f log words views marked) loads

-- what the rule says of one view, in groups over the fields that they speak of
pub record Seated (f : Frame) (log : List Edge) (words : List ℕ) (views : List View) (v : View) : Type 0 where
  pub ended : v.live ≡ false → v ≡ spent
  pub takes : Takes f.first v.live v.seen v.taken
  pub sees : Sees log views v.seen v.marked
  pub knows : Knows log words v.head v.archived v.durable
  pub works : Works words v.archives v.flushes v.archived v.durable v.taken
  pub owes : Owes log (flag_in words) v.pending v.abandoned
  pub owns : Owns log views v.own v.joined
  pub reads : Reads f log words views v.marked v.loads

-- the flag is a cause that a view raised, and none where none did
pub record IsFlag (flag : ℕ) (views : List View) : Type 0 where
  pub known : flag ≤ 2
  pub none_disk : flag ≡ 0 → count_by (λ v. v.disk_raised) views ≡ 0
  pub none_memory : flag ≡ 0 → count_by (λ v. v.memory_raised) views ≡ 0
  pub disk : flag ≡ 1 → 0 < count_by (λ v. v.disk_raised) views
  pub memory : flag ≡ 2 → 0 < count_by (λ v. v.memory_raised) views

-- each position of the log from the first on stands once, in one view alone, and no other position does
pub record StandOnce (first : ℕ) (log : List Edge) (views : List View) : Type 0 where
  pub once : (p : ℕ) → first ≤ p → p < length log → sum_by (stands p) views ≡ 1
  pub before : (p : ℕ) → p < first → sum_by (stands p) views ≡ 0
  pub after : (p : ℕ) → length log ≤ p → sum_by (stands p) views ≡ 0

-- the words and the views are tied to a log
pub record TiedBy (f : Frame) (log : List Edge) (words : List ℕ) (views : List View) : Type 0 where
  pub ringed : Ringed f log words views
  pub seated : (i : ℕ) (v : View) → get_elem? views i ≡ some v → Seated f log words views v
  pub stand : StandOnce f.first log views
  pub one_archiver : count_by (λ v. v.archives) views ≤ 1
  pub one_flusher : count_by (λ v. v.flushes) views ≤ 1
  pub storable : (p : ℕ) (e : Edge) → f.first ≤ p → get_elem? log p ≡ some e → IsStorable e
  pub flag : IsFlag (flag_in words) views

-- there is a log that they are tied to
abbrev pub Tied : Frame → List ℕ → List View → Type 0
Tied f words views = (log : List Edge) × TiedBy f log words views
