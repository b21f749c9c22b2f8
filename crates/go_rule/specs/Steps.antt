-- What each kind of step tells the seat that takes it, by the number that its word had.
use Rattle.std.specs.Prelude.{◌≡◌, ◌⊎◌, ℕ, ◌+◌, ◌^◌, ◌<◌, ◌≤◌, max, true, false, List, length, take, All, AllPairs, Contains}
use mathlib.Core.Option.{some}
use lib.ListN.{get_elem?}
use Rattle.atomic_table.specs.Seated.{TableId}
use Rattle.atomic_table.specs.Table.{Step, Me}
use Rattle.go_word.specs.declared.edge.Edge.{Edge}
use Rattle.go_word.specs.Word.{word, is_matched, decode}
use Rattle.go_core.specs.declared.entry.Entry.{Entry}
use Rattle.go_core.specs.declared.entry.Load.{Load}
use Rattle.go_core.specs.declared.part.PartState.{PartState}
use Rattle.go_core.specs.Frame.{Frame}
use Rattle.go_core.specs.View.{stands}
use Rattle.go_core.specs.Parts.{IsShardPlace}
use Rattle.go_rule.specs.declared.view.Note.{Note}
use Rattle.go_rule.specs.declared.view.PlacedPin.{PlacedPin}
use Rattle.go_rule.specs.declared.view.Stand.{Stand}
use Rattle.go_rule.specs.declared.view.SeatView.{SeatView}
use Rattle.go_rule.specs.Rule.{IsBelow, Begins}
use Rattle.go_rule.specs.Views.{entries_of, with_head, with_archived, with_durable, with_ending, claiming, with_stored, with_ahead, with_unmoved, with_took}
use Rattle.go_rule.specs.Views.{with_archiving, with_flushing, with_flag, with_raised, with_abandoned}

-- what a party has seen goes on, up to at least a front
pub record SeesOn (before after : List Edge) (seen front : ℕ) : Type 0 where
  pub begins : before ≡ take (length before) after
  pub up_to : length after ≡ max seen front

-- a word is that of the entry that was seen at its position, which lies between vertices of the graph
pub record IsWordOf (slots vertices : ℕ) (seen : List Edge) (l : Load) : Type 0 where
  pub edge : Edge
  pub there : get_elem? seen l.at ≡ some edge
  pub is : l.word ≡ word slots l.at edge
  pub below : IsBelow vertices edge

-- a word that was read ahead is that of its entry, where it is matched, its position is seen, and a front at or below that was read after it
abbrev pub IsRead : ℕ → ℕ → List Edge → ℕ → Load → Type 0
IsRead slots vertices seen front l =
    ((l.sure ≡ true) ⊎ (front ≤ l.at)) → is_matched slots l.at l.word ≡ true → l.at < length seen → IsWordOf slots vertices seen l

-- a seat is one of a ring, and live
abbrev pub IsAt : {P : Type 0} → TableId → TableId → SeatView P → Type 0
IsAt ring seat d = (seat ≡ ring) × (d.core.live ≡ true)

-- a front is n: no less than what the seat knew there and than what it knows to be released; what it has seen lies within the slots past it;
-- it is a number of 32 bits; and with the whole lot it is no further than the seat's entries go
pub record FrontIs {P : Type 0} (f : Frame) (known : ℕ) (d : SeatView P) (n : ℕ) : Type 0 where
  pub known_to : known ≤ n
  pub passed_to : d.told.passed ≤ n
  pub window : d.core.seen ≤ n + f.slots
  pub small : n < 2 ^ 32
  pub whole : d.share.lot ≡ 2 ^ 32 → n ≤ f.first + entries_of d.core

-- an entry is the log's, which is so long, and stands in what is seen of that, unless that ends before it
pub record IsLogged (length_is : ℕ) (seen : List Edge) (x : Entry) : Type 0 where
  pub within : x.at < length_is
  pub there : x.at < length seen → get_elem? seen x.at ≡ some x.edge

-- the entries of a seat rise in position, and each is the log's
pub record AreLogged (length_is : ℕ) (seen : List Edge) (xs : List Entry) : Type 0 where
  pub rising : AllPairs (λ x y. x.at < y.at) xs
  pub logged : All (IsLogged length_is seen) xs

-- what a seat may tell of a log that is so long: what it has seen lies between vertices of the graph; what it heard at joins, where that is no longer,
-- begins it; its own entries and those of each seat that was joined in are the log's; and with the whole lot each position from the first on stands once
pub record TellsLog {P : Type 0} (f : Frame) (length_is : ℕ) (d : SeatView P) : Type 0 where
  pub below : All (IsBelow d.about.vertices) d.told.seen
  pub heard : All (λ (xs : List Edge). length xs ≤ length d.told.seen → Begins d.told.seen xs) d.told.heard
  pub own : AreLogged length_is d.told.seen d.core.own
  pub joined : All (AreLogged length_is d.told.seen) d.core.joined
  pub once : d.share.lot ≡ 2 ^ 32 → (p : ℕ) → f.first ≤ p → p < length_is → stands p d.core ≡ 1

module _ {P S : Type 0} where
  -- after a step the seat has a view, and the parts in its hand are as they were
  abbrev pub Becomes : SeatView P → Me S (SeatView P) → Me S (SeatView P) → Type 0
  Becomes view before after = after ≡ (view, before.1)

  -- the log's length is n: no less than what the seat knew, has seen and knows of the fronts; with the whole lot each entry past the first
  -- position is the seat's
  pub record LoadsHead (f : Frame) (step : Step S) (me : Me S (SeatView P)) (n : ℕ) (now : Me S (SeatView P)) : Type 0 where
    pub becomes : Becomes (with_head n me.0) me now
    pub known : me.0.core.head ≤ n
    pub seen : me.0.core.seen ≤ n
    pub archived : me.0.core.archived ≤ n
    pub durable : me.0.core.durable ≤ n
    pub small : n < 2 ^ 32
    pub whole : me.0.share.lot ≡ 2 ^ 32 → n ≡ f.first + entries_of me.0.core
    pub tells : TellsLog f n me.0

  -- the archived front is n, and the seat has seen the log up to it; neither a pin of the seat nor the cut of a shard in its hand is past it
  pub record LoadsArchived (state_of : P → PartState) (f : Frame) (step : Step S) (me : Me S (SeatView P)) (n : ℕ) (now : Me S (SeatView P)) : Type 0 where
    pub seen : List Edge
    pub becomes : Becomes (with_archived n seen me.0) me now
    pub sees : SeesOn me.0.told.seen seen me.0.core.seen n
    pub front : FrontIs f me.0.core.archived me.0 n
    pub pins : All (λ (x : PlacedPin). IsShardPlace f x.place → x.pin.front ≤ n) me.0.stake.pins
    pub cuts : All (λ (x : Note P). IsShardPlace f x.place → (state_of x.part).cut ≤ n) me.0.stake.notes

  -- the durable front is n, and the seat has seen the log up to it
  pub record LoadsDurable (f : Frame) (step : Step S) (me : Me S (SeatView P)) (n : ℕ) (now : Me S (SeatView P)) : Type 0 where
    pub seen : List Edge
    pub becomes : Becomes (with_durable n seen me.0) me now
    pub sees : SeesOn me.0.told.seen seen me.0.core.seen n
    pub front : FrontIs f me.0.core.durable me.0 n

  -- the durable front is n, and the seat has seen the log up to it and up to the end of its copy, whose words are those of the entries
  pub record LoadsEnding (f : Frame) (end : ℕ) (step : Step S) (me : Me S (SeatView P)) (n : ℕ) (now : Me S (SeatView P)) : Type 0 where
    pub seen : List Edge
    pub becomes : Becomes (with_ending n end seen me.0) me now
    pub sees : SeesOn me.0.told.seen seen me.0.core.seen (max n end)
    pub front : FrontIs f me.0.core.durable me.0 n
    pub words : All (IsRead f.slots me.0.about.vertices seen n) me.0.core.loads

  -- the entries stand from position n on, all below 2^32, which is no less than the length that the seat knew and what it has seen
  abbrev pub Claims : List Edge → Step S → Me S (SeatView P) → ℕ → Me S (SeatView P) → Type 0
  Claims es step me n now = Becomes (claiming n es me.0) me now × (me.0.core.head ≤ n) × (me.0.core.seen ≤ n) × (n + length es < 2 ^ 32)

  -- the entry's word stands in its slot, and the entry is the seat's own
  abbrev pub Stores : Entry → Step S → Me S (SeatView P) → ℕ → Me S (SeatView P) → Type 0
  Stores x step me n now = Becomes (with_stored x me.0) me now

  -- the slot of the position holds the word n, and what was released then is noted: where the word isn't matched, a position that was seen is
  -- below that
  pub record ReadAhead (slots p : ℕ) (me : Me S (SeatView P)) (n : ℕ) (now : Me S (SeatView P)) : Type 0 where
    pub released : ℕ
    pub becomes : Becomes (with_ahead p n released me.0) me now
    pub passed_to : me.0.told.passed ≤ released
    pub gone : is_matched slots p n ≡ false → p < me.0.core.seen → p < released

  -- whichever word it is that holds the slot
  abbrev pub LoadsAhead : ℕ → ℕ → Step S → Me S (SeatView P) → ℕ → Me S (SeatView P) → Type 0
  LoadsAhead slots p step me n now = ReadAhead slots p me n now

  -- the position's word n is matched: the seat has taken its entry, which lies between vertices of the graph
  pub record Took (p : ℕ) (me : Me S (SeatView P)) (n : ℕ) (now : Me S (SeatView P)) : Type 0 where
    pub seen : List Edge
    pub becomes : Becomes (with_took p seen me.0) me now
    pub sees : SeesOn me.0.told.seen seen me.0.core.seen (p + 1)
    pub small : p + 1 < 2 ^ 32
    pub entry : get_elem? seen p ≡ some (decode n)
    pub below : IsBelow me.0.about.vertices (decode n)

  -- or it isn't, and the seat was told nothing
  abbrev pub LoadsOrdered : ℕ → ℕ → Step S → Me S (SeatView P) → ℕ → Me S (SeatView P) → Type 0
  LoadsOrdered slots p step me n now =
      ((is_matched slots p n ≡ true) × Took p me n now) ⊎ ((is_matched slots p n ≡ false) × Becomes (with_unmoved me.0) me now)

  -- the archived front is n from then on
  abbrev pub StoresArchived : Step S → Me S (SeatView P) → ℕ → Me S (SeatView P) → Type 0
  StoresArchived step me n now = Becomes (with_archiving n me.0) me now

  -- the durable front is
  abbrev pub StoresDurable : Step S → Me S (SeatView P) → ℕ → Me S (SeatView P) → Type 0
  StoresDurable step me n now = Becomes (with_flushing n me.0) me now

  -- the flag is n: none only where this seat raised no cause, and up where the seat saw it so; with the whole lot it is a cause that this seat raised
  pub record LoadsFlag (step : Step S) (me : Me S (SeatView P)) (n : ℕ) (now : Me S (SeatView P)) : Type 0 where
    pub becomes : Becomes (with_flag n me.0) me now
    pub known : n ≤ 2
    pub none_raised : n ≡ 0 → (me.0.core.disk_raised ≡ false) × (me.0.core.memory_raised ≡ false)
    pub stays : me.0.told.flagged ≡ true → 0 < n
    pub whole : me.0.share.lot ≡ 2 ^ 32 → (n ≡ 1 → me.0.core.disk_raised ≡ true) × (n ≡ 2 → me.0.core.memory_raised ≡ true)

  -- the flag is n, a cause that this seat raised
  abbrev pub StoresFlag : Step S → Me S (SeatView P) → ℕ → Me S (SeatView P) → Type 0
  StoresFlag step me n now = Becomes (with_raised n me.0) me now

  -- the entry is given up
  abbrev pub Abandons : Entry → Step S → Me S (SeatView P) → ℕ → Me S (SeatView P) → Type 0
  Abandons x step me n now = Becomes (with_abandoned x me.0) me now

-- all from the archived front that the seat knows up to an end was read ahead in its copy, and is matched
abbrev pub CanEnd : {P : Type 0} → ℕ → SeatView P → ℕ → Type 0
CanEnd slots d end =
    (p : ℕ) → d.core.archived ≤ p → p < end → (l : Load) × Contains d.core.loads l × (l.at ≡ p) × (is_matched slots l.at l.word ≡ true)

-- a worker may read the word of a position in its turn: at or past the front that it moves, and at most one past what it took
pub record CanTakeNext {P : Type 0} (d : SeatView P) (p : ℕ) : Type 0 where
  pub role : ((d.core.archives ≡ true) × (d.core.archived ≤ p)) ⊎ ((d.core.flushes ≡ true) × (d.core.durable ≤ p))
  pub next : p ≤ d.core.taken

-- the archived front may be moved: by its worker, over what that took, to where each shard is known to have stood
pub record CanArchiveTo {P : Type 0} (shards : ℕ) (d : SeatView P) (front : ℕ) : Type 0 where
  pub role : d.core.archives ≡ true
  pub onward : d.core.archived ≤ front
  pub taken : front ≤ d.core.taken
  pub stood : (place : ℕ) → place < shards → Contains d.stake.stood (record { place = place; front = front })

-- the durable front may be moved: by its worker, over what that took, and no further than the file is known to have stood
pub record CanFlushTo {P : Type 0} (shards : ℕ) (d : SeatView P) (front : ℕ) : Type 0 where
  pub role : d.core.flushes ≡ true
  pub onward : d.core.durable ≤ front
  pub taken : front ≤ d.core.taken
  pub stand : Stand
  pub stood : Contains d.stake.stood stand
  pub file : stand.place ≡ shards
  pub far : front ≤ stand.front
