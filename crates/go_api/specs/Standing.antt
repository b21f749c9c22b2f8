-- What one session's handle of a store stands for, and what may change of it.
use Rattle.std.specs.Prelude.{◌≡◌, ℕ, ◌<◌, ◌≤◌, ◌^◌, Bool, true, false, List, [], length, take, replicate, All}
use Rattle.go_word.specs.declared.edge.Edge.{Edge}
use Rattle.go_word.specs.Log.{IsWithin}
use Rattle.go_api.specs.Laid.{Rises}
use Rattle.go_api.specs.declared.place.TheConstants.{PLACES}
use Rattle.go_api.specs.declared.place.Place.{Place}
use Rattle.go_api.specs.declared.place.Place.TheVariants.{Free, View, Stream}

-- what no call changes: how long the log was at opening, its number of vertices, how many slots the ring has, and whether what is read of the log file is told
pub record Terms : Type 0 where
  pub first : ℕ
  pub vertices : ℕ
  pub ring : ℕ
  pub told : Bool

-- how far a session sees the log: the prefix that it has seen, a front below which it takes no view, a length that the log has at least, and a front
-- that is durable
pub record Horizon : Type 0 where
  pub seen : List Edge
  pub floor : ℕ
  pub known : ℕ
  pub durable : ℕ

-- what a session's handle stands for: the session's own positions, and what it put there; how far it sees the log; how many entries it may yet put, what
-- stands at its places, and whether a fault of the disk was met
pub record Standing : Type 0 where
  pub terms : Terms
  pub own : List ℕ
  pub edges : List Edge
  pub log : Horizon
  pub quota : ℕ
  pub places : List Place
  pub met : Bool

-- each place is free
abbrev pub all_free : List Place
all_free = replicate PLACES Free

-- a view shows no more than so many entries, and a stream has come no further
abbrev pub ShowsUpTo : ℕ → Place → Type 0
ShowsUpTo floor Free = Unit {0}
ShowsUpTo floor (View front) = front ≤ floor
ShowsUpTo floor (Stream cursor) = cursor ≤ floor

-- what a standing saw is a prefix of a log that is long enough; the old log is a part of it, and its vertices are there
pub record SeesLog (s : Standing) : Type 0 where
  pub old_seen : s.terms.first ≤ s.log.floor
  pub floor_seen : s.log.floor ≤ length s.log.seen
  pub seen_known : length s.log.seen ≤ s.log.known
  pub short : length s.log.seen < 2 ^ 32
  pub ids : All (IsWithin s.terms.vertices) s.log.seen

-- its own positions rise behind the old log and are known, and one entry was put at each
pub record OwnsPositions (s : Standing) : Type 0 where
  pub rises : Rises s.terms.first s.own
  pub known : All (λ p. p < s.log.known) s.own
  pub put : length s.own ≡ length s.edges

-- a session can stand so: beside what it saw and owns it has its places, and what stands there goes no further than its floor
pub record IsSound (s : Standing) : Type 0 where
  pub sees : SeesLog s
  pub owns : OwnsPositions s
  pub count : length s.places ≡ PLACES
  pub shown : All (ShowsUpTo s.log.floor) s.places

-- what goes on, whatever a call answers: the log only grows, and so does what is known of it
pub record Onward (before after : Standing) : Type 0 where
  pub same_terms : after.terms ≡ before.terms
  pub seen_more : take (length before.log.seen) after.log.seen ≡ before.log.seen
  pub seen_longer : length before.log.seen ≤ length after.log.seen
  pub floor_later : before.log.floor ≤ after.log.floor
  pub known_later : before.log.known ≤ after.log.known
  pub durable_later : before.log.durable ≤ after.log.durable
  pub met_stays : before.met ≡ true → after.met ≡ true

-- nothing was put, and each place holds what it held
pub record Kept (before after : Standing) : Type 0 where
  pub onward : Onward before after
  pub same_own : after.own ≡ before.own
  pub same_edges : after.edges ≡ before.edges
  pub same_places : after.places ≡ before.places

-- what other sessions' calls leave of a standing: the log may be longer and more of it durable, and a fault of the disk may have been met
pub record IsBeside (before after : Standing) : Type 0 where
  pub same : after ≡ record before { log = record before.log { known = after.log.known; durable = after.log.durable }; met = after.met }
  pub known_later : before.log.known ≤ after.log.known
  pub durable_later : before.log.durable ≤ after.log.durable
  pub met_stays : before.met ≡ true → after.met ≡ true

-- a log as it was opened: all of it is seen and durable
abbrev pub opened_log : List Edge → Horizon
opened_log log = record { seen = log; floor = length log; known = length log; durable = length log }

-- a handle of which no call was asked, over a log that was opened: it may put so many entries
abbrev pub unused : Terms → List Edge → ℕ → Standing
unused terms log quota = record {
  terms = terms;
  own = [];
  edges = [];
  log = opened_log log;
  quota = quota;
  places = all_free;
  met = false;
}
