-- The rule: what ties the words of a ring, its parts at home and what its seats know to one log.
use Rattle.std.specs.Prelude.{◌≡◌, ℕ, ◌+◌, ◌-◌, ◌^◌, ◌<◌, ◌≤◌, ◌==◌, Bool, true, false, List, [], map, filter, length, take, All, find, is_some, slice_get}
use Rattle.std.specs.Prelude.{slice_index, sum_by, Option as Maybe, Some}
use mathlib.Core.Option.{Option, some}
use lib.ListN.{get_elem?}
use Rattle.atomic_table.specs.Table.{State}
use Rattle.go_text.specs.Causes.{Rose}
use Rattle.go_word.specs.declared.edge.Edge.{Edge}
use Rattle.go_word.specs.declared.pin.Pin.{Pin}
use Rattle.go_core.specs.declared.view.View.{View}
use Rattle.go_core.specs.Frame.{Frame, archived_in, flag_in, released}
use Rattle.go_core.specs.Rule.{IsWritten, TiedBy}
use Rattle.go_core.specs.Parts.{ArePartsOf, IsShardPlace, IsFilePlace, IsTurn, ArePinned}
use Rattle.go_rule.specs.declared.layout.Key.{Key}
use Rattle.go_rule.specs.declared.view.Note.{Note}
use Rattle.go_rule.specs.declared.view.PlacedPin.{PlacedPin}
use Rattle.go_rule.specs.declared.view.Stand.{Stand}
use Rattle.go_rule.specs.declared.view.Told.{Told}
use Rattle.go_rule.specs.declared.view.SeatView.{SeatView}
use Rattle.go_rule.specs.Meaning.{Meaning}
use Rattle.go_rule.specs.Views.{frame_of, opened_of, about_of, spent_view}

-- an entry is between vertices of the graph
pub record IsBelow (vertices : ℕ) (e : Edge) : Type 0 where
  pub src : e.src < vertices
  pub dst : e.dst < vertices

-- a list is a beginning of the log
abbrev pub Begins : List Edge → List Edge → Type 0
Begins log xs = xs ≡ take (length xs) log

-- what a seat was told of the log: what it has seen, what it heard at joins, what was released, and the flag
pub record IsTold (log : List Edge) (words : List ℕ) (seen : ℕ) (told : Told) : Type 0 where
  pub seen_is : told.seen ≡ take seen log
  pub heard : All (Begins log) told.heard
  pub passed : told.passed ≤ released words
  pub raised : told.flagged ≡ true → 0 < flag_in words

module _ {P : Type 0} where
  -- what the seats know of the log
  abbrev pub cores : List (SeatView P) → List View
  cores views = map (λ d. d.core) views

  -- a seat has the part of a place in its hand
  abbrev pub has_note : ℕ → SeatView P → Bool
  has_note place d = is_some (find (λ (n : Note P). n.place == place) d.stake.notes)

  -- a seat's pins in the shard of a place
  abbrev pub pins_at : ℕ → SeatView P → List Pin
  pins_at place d = map (λ (x : PlacedPin). x.pin) (filter (λ (x : PlacedPin). x.place == place) d.stake.pins)

  -- the log goes on from what the ring was opened with, and stands between vertices of the graph
  pub record IsLog (key : Key P) (log : List Edge) : Type 0 where
    pub opened : take key.first log ≡ opened_of key
    pub below : All (IsBelow key.layout.vertices) log

  -- all that was claimed and may be claimed is counted by numbers of 32 bits, and the seats' lots are shares in 2^32
  pub record AreShared (log : List Edge) (views : List (SeatView P)) : Type 0 where
    pub quotas : length log + sum_by (λ (d : SeatView P). d.share.quota) views ≤ 2 ^ 32 - 1
    pub lots : sum_by (λ (d : SeatView P). d.share.lot) views ≡ 2 ^ 32

  module _ (m : Meaning P) where
    -- a part stands for the log from the ring's first position on
    abbrev pub StandsFrom : Key P → P → List Edge → Type 0
    StandsFrom key part log = m.stands_for part key.first log

    -- a seat knows of a part that it reached a front, and of a shard that is cut no further that it tells of just that front
    pub record HasStood (f : Frame) (parts : List P) (s : Stand) : Type 0 where
      pub reached : (part : P) → slice_get parts s.place ≡ Some part → s.front ≤ (m.state_of part).front
      pub kept : (part : P) → slice_get parts s.place ≡ Some part → IsShardPlace f s.place → (m.state_of part).cut ≤ s.front → m.keeps part s.front

    -- what the rule says of one seat
    pub record IsSeat (key : Key P) (log : List Edge) (words : List ℕ) (parts : List P) (d : SeatView P) : Type 0 where
      pub ended : d.core.live ≡ false → d ≡ spent_view
      pub about : d.core.live ≡ true → d.about ≡ about_of (m.mark_of key.file.value) key
      pub told : IsTold log words d.core.seen d.told
      pub lot : d.core.live ≡ true → 1 ≤ d.share.lot
      pub kept : d.core.live ≡ true → (place : ℕ) (part : P) → slice_get parts place ≡ Some part → IsShardPlace (frame_of key) place
          → (m.state_of part).cut ≤ d.core.archived → m.keeps part d.core.archived
      pub noted : All (λ (n : Note P). slice_get parts n.place ≡ Some n.part) d.stake.notes
      pub stood : All (HasStood (frame_of key) parts) d.stake.stood

    -- the parts by place, of which one that is out is spoken of as it was taken: each fits its place, and a shard tells of its own front and of
    -- the archived one
    pub record AreHeld (key : Key P) (log : List Edge) (words : List ℕ) (views : List View) (parts : List P) : Type 0 where
      pub count : length parts ≡ key.layout.shards + 1
      pub fits : (place : ℕ) (part : P) → slice_get parts place ≡ Some part → m.fits part place key.layout.shards key.layout.vertices
      pub of : ArePartsOf m.state_of (StandsFrom key) (frame_of key) log words views parts
      pub own : (place : ℕ) (part : P) → slice_get parts place ≡ Some part → IsShardPlace (frame_of key) place → m.keeps part (m.state_of part).front
      pub kept : (place : ℕ) (part : P) → slice_get parts place ≡ Some part → IsShardPlace (frame_of key) place → m.keeps part (archived_in words)

    -- the images of the file's disk since a mark recover to a beginning of the log, all of it written
    pub record IsRecovered (key : Key P) (log : List Edge) (views : List View) (part : P) : Type 0 where
      pub upto : ℕ
      pub written : (p : ℕ) → p < upto → IsWritten log views p
      pub recovers : m.recovers part (take upto log) key.layout.vertices key.first (m.mark_of key.file.value)

    -- the file's disk: its clock and its faults don't fall, and where it failed its faults rose and the flag is up
    pub record IsFile (key : Key P) (log : List Edge) (words : List ℕ) (views : List View) (part : P) : Type 0 where
      pub clock : (m.mark_of key.file.value).clock ≤ (m.mark_of part).clock
      pub faults : (m.mark_of key.file.value).faults ≤ (m.mark_of part).faults
      pub spent : m.is_spent part → Rose (m.mark_of key.file.value).faults (m.mark_of part).faults × (0 < flag_in words)
      pub recovered : IsRecovered key log views part

    -- turns and homes: a turn word counts the seats that have the part in their hand, and where it counts none the part is at home
    pub record AreHome (key : Key P) (words : List ℕ) (homes : List (Option (Maybe P))) (views : List (SeatView P)) (parts : List P) : Type 0 where
      pub turn : (place : ℕ) → place ≤ key.layout.shards → IsTurn (has_note place) (slice_index words (4 + place)) views
      pub at_home : (place : ℕ) (part : P) → slice_get parts place ≡ Some part → slice_index words (4 + place) ≡ 0 →
          get_elem? homes place ≡ some (some (Some part))

    -- a shard has each pin of each seat, also while it is in a hand
    abbrev pub IsPinned : Key P → List (SeatView P) → List P → Type 0
    IsPinned key views parts = (place : ℕ) (part : P) → slice_get parts place ≡ Some part → IsShardPlace (frame_of key) place
        → ArePinned (pins_at place) (λ d. []) (λ d. false) (m.state_of part).pins views

    -- the state of the table is ruled by a log and a list of parts
    pub record IsRuledBy (key : Key P) (s : State (Maybe P) (SeatView P)) (log : List Edge) (parts : List P) : Type 0 where
      pub tied : TiedBy (frame_of key) log s.words (cores s.views)
      pub logged : IsLog key log
      pub shared : AreShared log s.views
      pub seats : (i : ℕ) (d : SeatView P) → get_elem? s.views i ≡ some d → IsSeat key log s.words parts d
      pub held : AreHeld key log s.words (cores s.views) parts
      pub file : (place : ℕ) (part : P) → slice_get parts place ≡ Some part → IsFilePlace (frame_of key) place → IsFile key log s.words (cores s.views) part
      pub home : AreHome key s.words s.homes s.views parts
      pub pinned : IsPinned key s.views parts

    -- there are a log and parts by which it is ruled
    pub record IsRuled (key : Key P) (s : State (Maybe P) (SeatView P)) : Type 0 where
      pub log : List Edge
      pub parts : List P
      pub by : IsRuledBy key s log parts
