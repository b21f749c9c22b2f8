-- What each call of a store answers, and what it makes of the session's standing.
use Rattle.std.specs.Prelude.{◌≡◌, ℕ, ◌+◌, ◌<◌, ◌≤◌, min, true, List, [], ◌∷◌, ◌++◌, length, take, drop, slice_get, slice_set, All}
use Rattle.std.specs.Prelude.{Option, None, Some, Result, Ok, Err}
use Rattle.go_word.specs.declared.edge.Edge.{Edge}
use Rattle.go_word.specs.Log.{IsWithin, IsEnd}
use Rattle.go_word.specs.Neighbours.{neighbours}
use Rattle.go_api.specs.Laid.{Rises}
use Rattle.go_api.specs.Standing.{Standing, Onward, Kept}
use Rattle.go_api.specs.declared.answers.Offer.{Offer}
use Rattle.go_api.specs.declared.answers.Offer.TheVariants.{At, Busy}
use Rattle.go_api.specs.declared.answers.Reached.{Reached}
use Rattle.go_api.specs.declared.answers.Reached.TheVariants.{Yes, NotYet}
use Rattle.go_api.specs.declared.answers.Span.{Span}
use Rattle.go_api.specs.declared.place.Place.{Place}
use Rattle.go_api.specs.declared.place.Place.TheVariants.{View, Stream}
use Rattle.go_api.specs.declared.stop.Stop.{Stop}
use Rattle.go_api.specs.declared.stop.Stop.TheVariants.{Disk}

-- a ring is full at a head, as much of it as this having left the ring
abbrev pub IsFull : ℕ → ℕ → ℕ → Type 0
IsFull ring head released = released + ring ≤ head

-- a store stops for a fault of the disk only where one was met
abbrev pub TellsMet : Stop → Standing → Type 0
TellsMet why after = why ≡ Disk → after.met ≡ true

-- nothing was put, and no quota spent
pub record PutsNothing (before after : Standing) : Type 0 where
  pub same_own : after.own ≡ before.own
  pub same_edges : after.edges ≡ before.edges
  pub same_quota : after.quota ≡ before.quota

-- nothing was put, kept or spent, whatever more was seen
pub record OnlySees (before after : Standing) : Type 0 where
  pub kept : Kept before after
  pub quota : after.quota ≡ before.quota

-- what a call leaves that the store stopped, which puts nothing
pub record IsStopped (why : Stop) (before after : Standing) : Type 0 where
  pub sees : OnlySees before after
  pub met : TellsMet why after

-- a place holds something else, and nothing more was done
pub record IsPlacedAt (place : ℕ) (held : Place) (before after : Standing) : Type 0 where
  pub onward : Onward before after
  pub puts : PutsNothing before after
  pub placed : after.places ≡ slice_set before.places place held

-- a place holds this
abbrev pub Holds : ℕ → Place → Standing → Type 0
Holds place held s = slice_get s.places place ≡ Some held

-- a front of the log that a session may be shown: not below the session's floor, above each own position, no more than were seen, and not above the floor then
pub record IsFront (front : ℕ) (before after : Standing) : Type 0 where
  pub not_older : before.log.floor ≤ front
  pub above_own : All (λ p. p < front) before.own
  pub is_end : IsEnd after.log.seen front
  pub floor : front ≤ after.log.floor

-- entries may be put: there is a quota for them, and their vertices are there
pub record MayPut (edges : List Edge) (s : Standing) : Type 0 where
  pub quota : length edges ≤ s.quota
  pub ids : All (IsWithin s.terms.vertices) edges

-- entries have positions that rise behind all that was known of the log
pub record ArePut (edges : List Edge) (positions : List ℕ) (before after : Standing) : Type 0 where
  pub onward : Onward before after
  pub owned : after.own ≡ before.own ++ positions
  pub put : after.edges ≡ before.edges ++ edges
  pub so_many : length positions ≡ length edges
  pub rises : Rises before.log.known positions
  pub known : All (λ p. p < after.log.known) positions
  pub same_places : after.places ≡ before.places

-- an entry has this position, and its quota was spent
pub record IsPut (e : Edge) (p : ℕ) (before after : Standing) : Type 0 where
  pub put : ArePut (e ∷ []) (p ∷ []) before after
  pub quota : after.quota + 1 ≡ before.quota

-- a put that the store stopped put nothing that a reply tells, and spent its own entry's quota at most
pub record IsPutStopped (why : Stop) (before after : Standing) : Type 0 where
  pub kept : Kept before after
  pub no_more : after.quota ≤ before.quota
  pub own_alone : before.quota ≤ after.quota + 1
  pub met : TellsMet why after

-- what `put` answers
abbrev pub Puts : Edge → Result ℕ Stop → Standing → Standing → Type 0
Puts e (Ok p) before after = IsPut e p before after
Puts e (Err why) before after = IsPutStopped why before after

-- the last of some positions, where there is one
abbrev pub last_of : List ℕ → Option ℕ
last_of [] = None
last_of (p ∷ []) = Some p
last_of (p ∷ (q ∷ more)) = last_of (q ∷ more)

-- all entries of a list were put, and their quota was spent
pub record PutsAll (edges : List Edge) (last : Option ℕ) (before after : Standing) : Type 0 where
  pub positions : List ℕ
  pub put : ArePut edges positions before after
  pub last_is : last_of positions ≡ last
  pub quota : after.quota + length edges ≡ before.quota

-- the store stopped before all entries of a list were put: some first ones were, and no more than their quota and that of one more was spent
pub record PutsSome (edges : List Edge) (why : Stop) (before after : Standing) : Type 0 where
  pub count : ℕ
  pub fewer : count < length edges
  pub positions : List ℕ
  pub put : ArePut (take count edges) positions before after
  pub no_more : after.quota ≤ before.quota
  pub own_alone : before.quota ≤ after.quota + length edges
  pub met : TellsMet why after

-- what `put_entries` answers
abbrev pub PutsEntries : List Edge → Result (Option ℕ) Stop → Standing → Standing → Type 0
PutsEntries edges (Ok last) before after = PutsAll edges last before after
PutsEntries edges (Err why) before after = PutsSome edges why before after

-- the ring was full: nothing was put, and the head is above each own position and known, so that a later one is at or above it
pub record IsBusy (head released : ℕ) (before after : Standing) : Type 0 where
  pub sees : OnlySees before after
  pub full : IsFull before.terms.ring head released
  pub old_released : before.terms.first ≤ released
  pub above_own : All (λ p. p < head) before.own
  pub known : head ≤ after.log.known

-- what `offer` answers
abbrev pub Offers : Edge → Result Offer Stop → Standing → Standing → Type 0
Offers e (Ok (At p)) before after = IsPut e p before after
Offers e (Ok (Busy head released)) before after = IsBusy head released before after
Offers e (Err why) before after = IsPutStopped why before after

-- a view was taken of the log's first entries, as many as its front
pub record IsViewed (place front : ℕ) (before after : Standing) : Type 0 where
  pub holds : IsPlacedAt place (View front) before after
  pub front_is : IsFront front before after

-- what `view` answers
abbrev pub Views : ℕ → Result ℕ Stop → Standing → Standing → Type 0
Views place (Ok front) before after = IsViewed place front before after
Views place (Err why) before after = IsStopped why before after

-- a view can be read: the place holds one, and the vertex is there
pub record CanRead (place vertex : ℕ) (s : Standing) : Type 0 where
  pub front : ℕ
  pub held : Holds place (View front) s
  pub there : vertex < s.terms.vertices

-- reading a view, refused or not, changes nothing that was put, kept or seen
pub record IsRead (before after : Standing) : Type 0 where
  pub sees : OnlySees before after
  pub same_seen : after.log.seen ≡ before.log.seen

-- the neighbours of a vertex after the entries that the view at a place shows, whatever place it is
abbrev pub IsListAt : ℕ → ℕ → Standing → List ℕ → Type 0
IsListAt place vertex s list = (front : ℕ) → Holds place (View front) s → list ≡ neighbours (take front s.log.seen) vertex

-- a reading that the store stopped
pub record IsReadStopped (why : Stop) (before after : Standing) : Type 0 where
  pub read : IsRead before after
  pub met : TellsMet why after

-- what `neighbours` answers
abbrev pub Lists : {T : Type 0} → ℕ → ℕ → List ℕ → Result T Stop → Standing → Standing → Type 0
Lists place vertex list (Ok done) before after = IsRead before after × IsListAt place vertex before list
Lists place vertex list (Err why) before after = IsReadStopped why before after

-- what `degree` answers: how many neighbours there are
abbrev pub CountsAt : ℕ → ℕ → Result ℕ Stop → Standing → Standing → Type 0
CountsAt place vertex (Ok degree) before after =
    IsRead before after × ((list : List ℕ) → IsListAt place vertex before list → degree ≡ length list)
CountsAt place vertex (Err why) before after = IsReadStopped why before after

-- a stream was started at a front
pub record IsStarted (place cursor : ℕ) (before after : Standing) : Type 0 where
  pub holds : IsPlacedAt place (Stream cursor) before after
  pub front_is : IsFront cursor before after

-- what `start_stream` answers
abbrev pub Starts : ℕ → Result ℕ Stop → Standing → Standing → Type 0
Starts place (Ok cursor) before after = IsStarted place cursor before after
Starts place (Err why) before after = IsStopped why before after

-- a stream gave the entries from its cursor on, up to a front or so many, and came to their end; they are the log's where the log file is told
pub record IsUpdated (place most : ℕ) (list : List Edge) (span : Span) (before after : Standing) : Type 0 where
  pub front : ℕ
  pub from_cursor : Holds place (Stream span.from) before
  pub front_is : IsFront front before after
  pub ends : span.to ≡ min (span.from + most) front
  pub holds : IsPlacedAt place (Stream span.to) before after
  pub so_many : span.from + length list ≡ span.to
  pub shown : after.terms.told ≡ true → list ≡ drop span.from (take span.to after.log.seen)

-- a stream can be read: the place holds one, and it is to give some entries
pub record CanStream (place most : ℕ) (s : Standing) : Type 0 where
  pub cursor : ℕ
  pub held : Holds place (Stream cursor) s
  pub some : 1 ≤ most

-- what `update` answers
abbrev pub Updates : ℕ → ℕ → List Edge → Result Span Stop → Standing → Standing → Type 0
Updates place most list (Ok span) before after = IsUpdated place most list span before after
Updates place most list (Err why) before after = IsStopped why before after

-- the session sees the log at least up to the front that it asked for
pub record HasReached (asked front : ℕ) (before after : Standing) : Type 0 where
  pub sees : OnlySees before after
  pub front_is : front ≡ asked
  pub floor : asked ≤ after.log.floor

-- the session doesn't see the log so far: this is how much it sees
pub record HasNotReached (asked seen : ℕ) (before after : Standing) : Type 0 where
  pub sees : OnlySees before after
  pub seen_is : seen ≡ length after.log.seen
  pub below : seen < asked

-- what `until` answers
abbrev pub Waits : ℕ → Result Reached Stop → Standing → Standing → Type 0
Waits asked (Ok (Yes front)) before after = HasReached asked front before after
Waits asked (Ok (NotYet seen)) before after = HasNotReached asked seen before after
Waits asked (Err why) before after = IsStopped why before after

-- a front is durable
pub record IsSynced (front : ℕ) (before after : Standing) : Type 0 where
  pub sees : OnlySees before after
  pub front_is : IsFront front before after
  pub durable : front ≤ after.log.durable

-- what `sync` answers
abbrev pub Syncs : Result ℕ Stop → Standing → Standing → Type 0
Syncs (Ok front) before after = IsSynced front before after
Syncs (Err why) before after = IsStopped why before after

-- what `compact` answers
abbrev pub Compacts : {T : Type 0} → Result T Stop → Standing → Standing → Type 0
Compacts (Ok done) before after = OnlySees before after
Compacts (Err why) before after = IsStopped why before after
