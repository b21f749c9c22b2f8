-- What holds of a session's handle between its calls.
use Rattle.std.specs.Prelude.{◌≡◌, ◌≢◌, ℕ, ◌+◌, ◌^◌, ◌<◌, ◌≤◌, true, false, Bool, List, [], map, length, take, All, slice_get, get_or, replicate, Some, Option as Maybe}
use Rattle.atomic_table.specs.Seated.{TableId}
use Rattle.atomic_table.specs.declared.shared.Seat.{Seat}
use Rattle.atomic_table.specs.Table.{Me}
use Rattle.go_word.specs.declared.word.TheConstants.{ID_LIMIT}
use Rattle.go_api.specs.Laid.{Rises}
use Rattle.go_api.specs.Standing.{Standing, ShowsUpTo, all_free}
use Rattle.go_api.specs.declared.place.TheConstants.{PLACES}
use Rattle.go_api.specs.declared.stop.Stop.{Stop}
use Rattle.go_api.specs.declared.stop.Stop.TheVariants.{Disk, Memory}
use Rattle.go_rule.specs.declared.layout.Key.{Key}
use Rattle.go_rule.specs.declared.layout.Layout.{Layout}
use Rattle.go_rule.specs.declared.view.SeatView.{SeatView}
use Rattle.go_rule.specs.Rule.{IsBelow}
use Rattle.go_rule.specs.Steps.{IsAt}
use Rattle.go_piece.specs.declared.piece.Piece.{Piece}
use Rattle.go_views.specs.Views.{View as AView, IsView}
use Rattle.go_live.specs.declared.handle.Handle.{Handle}
use Rattle.go_live.specs.declared.held.Held.{Held}
use Rattle.go_live.specs.declared.held.Held.TheVariants.{View}
use Rattle.go_live.specs.Going.{Serves}
use Rattle.go_live.specs.Standings.{Kept, place_of, positions_of, standing_of}

-- a call was stopped by a fault of the disk
abbrev pub is_disk : Stop → Bool
is_disk Disk = true
is_disk Memory = false

-- the pins of two views have other names in each shard
abbrev pub AreApart : ℕ → AView → AView → Type 0
AreApart shards one other = (place : ℕ) → place < shards → get_or one.names place 0 ≢ get_or other.names place 0

module _ {P : Type 0} where
  -- what a seat has seen lies between vertices of the graph, and the log is known to be no shorter than what its session was shown
  pub record KnowsLog (seen : ℕ) (d : SeatView P) : Type 0 where
    pub below : All (IsBelow d.about.vertices) d.told.seen
    pub head : seen ≤ d.core.head
    pub small : d.core.head < 2 ^ 32

  -- its own entries rise from the first position on, up to a next one, and the log is known to be no shorter
  pub record OwnsUpTo (next : ℕ) (d : SeatView P) : Type 0 where
    pub rises : Rises d.about.first (positions_of d.core.own)
    pub before : All (λ p. p < next) (positions_of d.core.own)
    pub known : next ≤ d.core.head

  -- there are so many places; what they show is no further than what was seen, each view is the seat's, and two views have pins of other names
  pub record HasPlaces (shards seen : ℕ) (held : List Held) (d : SeatView P) : Type 0 where
    pub count : length held ≡ PLACES
    pub shown : All (ShowsUpTo seen) (map place_of held)
    pub views : (k : ℕ) (view : AView) → slice_get held k ≡ Some (View view) → IsView shards view d
    pub apart : (j k : ℕ) (one other : AView) → j ≢ k → slice_get held j ≡ Some (View one) → slice_get held k ≡ Some (View other) → AreApart shards one other

  -- a seat owes no word and has no part in its hand
  pub record HasNothing {S : Type 0} (me : Me S (SeatView P)) : Type 0 where
    pub pending : me.0.core.pending ≡ []
    pub notes : me.0.stake.notes ≡ []
    pub slots : me.1 ≡ []

  -- a seat has seen the log up to a front
  pub record SeesTo (front : ℕ) (d : SeatView P) : Type 0 where
    pub seen : front ≤ d.core.seen
    pub there : front ≤ length d.told.seen

  -- the session was shown no less than the log before the first position, and no more than its seat has seen; no front that is known is before that position
  pub record HasFronts (seen : ℕ) (d : SeatView P) : Type 0 where
    pub from : d.about.first ≤ seen
    pub to : SeesTo seen d
    pub archived : d.about.first ≤ d.core.archived
    pub durable : d.about.first ≤ d.core.durable

  -- what a session keeps goes with what its seat knows
  pub record IsKept (shards : ℕ) (kept : Kept) (d : SeatView P) : Type 0 where
    pub owns : OwnsUpTo kept.next d
    pub fronts : HasFronts kept.seen d
    pub places : HasPlaces shards kept.seen kept.held d
    pub met : kept.met ≡ true → d.told.flagged ≡ true

-- the sizes of a ring are such that its words and turns can be counted
pub record IsSized (layout : Layout) : Type 0 where
  pub some_shards : 1 ≤ layout.shards
  pub few_shards : layout.shards < 2 ^ 32
  pub few_vertices : layout.vertices ≤ ID_LIMIT

module _ {D : Type 0} where
  -- what a session keeps beside its seat
  abbrev pub kept_of : Handle D → Kept
  kept_of h = record { seen = h.seen; next = h.next; held = h.held.items; met = h.met }

  -- what its handle stands for, over a ring that was made so
  abbrev pub stands_in : Key (Piece D) → Handle D → Standing
  stands_in key h = standing_of key.layout.ring (kept_of h) h.seat.me.0

  -- a handle is one of a ring, and has the ring's numbers and a buffer for its words
  pub record IsOf (table : TableId) (key : Key (Piece D)) (h : Handle D) : Type 0 where
    pub at : IsAt table h.seat.table_id h.seat.me.0
    pub sized : IsSized key.layout
    pub vertices_are : h.seat.me.0.about.vertices ≡ key.layout.vertices
    pub vertices : h.vertices ≡ h.seat.me.0.about.vertices
    pub first : h.first ≡ h.seat.me.0.about.first
    pub words : length h.words.items ≡ key.layout.ring

  -- so it is between calls of its ring and seat, whatever these told
  pub record IsSteady (table : TableId) (key : Key (Piece D)) (h : Handle D) : Type 0 where
    pub of : IsOf table key h
    pub nothing : HasNothing h.seat.me
    pub kept : IsKept key.layout.shards (kept_of h) h.seat.me.0

  -- so it is between its own calls
  pub record IsHandle (table : TableId) (key : Key (Piece D)) (h : Handle D) : Type 0 where
    pub steady : IsSteady table key h
    pub knows : KnowsLog h.seen h.seat.me.0

  -- a new seat of a ring has no entry, heard of no join, and knows of the log what it was at the ring's opening, at least
  pub record IsNewSeat (table : TableId) (key : Key (Piece D)) (first vertices : ℕ) (seat : Seat (Maybe (Piece D)) (SeatView (Piece D))) : Type 0 where
    pub at : IsAt table seat.table_id seat.me.0
    pub sized : IsSized key.layout
    pub numbers : (vertices ≡ seat.me.0.about.vertices) × (first ≡ seat.me.0.about.first) × (seat.me.0.about.vertices ≡ key.layout.vertices)
    pub nothing : HasNothing seat.me
    pub own : seat.me.0.core.own ≡ []
    pub fronts : HasFronts first seat.me.0
    pub head : first ≤ seat.me.0.core.head

  -- a handle of which no call was asked: its session was shown the log as it was before the first position, and may put what the seat may
  pub record HasBegun (key : Key (Piece D)) (seat : Seat (Maybe (Piece D)) (SeatView (Piece D))) (h : Handle D) : Type 0 where
    pub own : h.seat.me.0.core.own ≡ []
    pub quota : h.seat.me.0.share.quota ≡ seat.me.0.share.quota
    pub seen : h.seen ≡ h.first
    pub places : map place_of h.held.items ≡ all_free
    pub met : h.met ≡ false
    pub serves : Serves seat.me.0 h.seat.me.0
    pub same : (h.seat.table_id ≡ seat.table_id) × (h.seat.id ≡ seat.id)
