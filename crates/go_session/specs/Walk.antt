-- Which replies a session may give: a walk over its commands and replies, beside one log.
use Rattle.std.specs.Prelude.{◌≡◌, ◌⊎◌, ℕ, ◌+◌, ◌<◌, ◌≤◌, ◌==◌, min, max, if◌then◌else◌, Bool, true, List, [], ◌∷◌, length, take, drop, fold}
use Rattle.std.specs.Prelude.{slice_get, Option, Some, None, All}
use Rattle.go_word.specs.declared.edge.Edge.{Edge}
use Rattle.go_word.specs.Log.{IsEnd}
use Rattle.go_api.specs.Calls.{IsFull, last_of}
use Rattle.go_api.specs.Laid.{Rises}
use Rattle.go_api.specs.declared.place.Place.{Place}
use Rattle.go_api.specs.declared.place.Place.TheVariants as held
use Rattle.go_script.specs.declared.command.Command.{Command}
use Rattle.go_script.specs.declared.command.Command.TheVariants as asks
use Rattle.go_report.specs.declared.reply.Reply.{Reply}
use Rattle.go_report.specs.declared.reply.Reply.TheVariants as tells
use Rattle.go_session.specs.Asked.{Asked}
use Rattle.go_session.specs.Value.{IsValue}

-- what a session's replies speak of: how long the log was at opening, the number of vertices, the slots of the ring, whether the log file is told; the
-- positions of its own entries, the log, and how long that is known to be
pub record World : Type 0 where
  pub first : ℕ
  pub vertices : ℕ
  pub ring : ℕ
  pub told : Bool
  pub own : List ℕ
  pub log : List Edge
  pub known : ℕ

-- where a walk stands: how long the log was at opening, how many own positions its replies used, below what no later one is, the front that it has seen,
-- and what is at each place
pub record Walk : Type 0 where
  pub first : ℕ
  pub used : ℕ
  pub low : ℕ
  pub seen : ℕ
  pub place_at : ℕ → Place

-- the walk at the beginning: no own position is used, the old log is seen, and all places are free
abbrev pub start : ℕ → Walk
start first = record { first = first; used = 0; low = first; seen = first; place_at = λ k. held.Free }

-- a front that may be shown anew: not older than what was seen, within the log, and above each own position that was used
pub record IsFresh (world : World) (walk : Walk) (front : ℕ) : Type 0 where
  pub not_older : walk.seen ≤ front
  pub within : IsEnd world.log front
  pub above_own : All (λ p. p < front) (take walk.used world.own)

-- the kinds of reply that commands ask for
pub data Row : Type 0 where
  -- one that shows the position of an entry so
  entry : (ℕ → Reply) → Row
  -- one to an offer
  offered : Row
  -- one to a load of this name
  loaded : List ℕ → Row
  -- a new view at a place
  viewed : ℕ → Row
  -- what a command asks of the view at a place
  value : ℕ → Command → Row
  -- a new stream at a place
  streamed : ℕ → Row
  -- the next entries of the stream at a place, so many at most
  updated : ℕ → ℕ → Row
  -- that the log has so many entries behind the old ones
  reached : ℕ → Row
  -- a front that is durable
  synced : Row
  -- this one alone
  word : Reply → Row

-- what kind of reply a command asks for
abbrev pub row_of : Command → Row
row_of (asks.Add src dst) = entry tells.Added
row_of (asks.Del src dst) = entry tells.Deleted
row_of (asks.Offer src dst) = offered
row_of (asks.Load name) = loaded name
row_of (asks.View place) = viewed place
row_of (asks.Drop place) = word (tells.Dropped place)
row_of (asks.Degree place vertex) = value place (asks.Degree place vertex)
row_of (asks.Neigh place vertex) = value place (asks.Neigh place vertex)
row_of (asks.Hop place vertex) = value place (asks.Hop place vertex)
row_of (asks.Level place root vertex) = value place (asks.Level place root vertex)
row_of (asks.Bfs place root) = value place (asks.Bfs place root)
row_of (asks.Rank place count) = value place (asks.Rank place count)
row_of (asks.Stream place) = streamed place
row_of (asks.Close place) = word (tells.Closed place)
row_of (asks.Update place most) = updated place most
row_of (asks.Until asked) = reached asked
row_of asks.Sync = synced
row_of asks.Compact = word tells.Compacted

-- the next own position is shown: it is at or above what was seen, and not below what no later one is
abbrev pub IsEntry : World → Walk → (ℕ → Reply) → Reply → Type 0
IsEntry world walk show reply = (p : ℕ) × (reply ≡ show p) × (slice_get world.own walk.used ≡ Some p) × (walk.seen ≤ p) × (walk.low ≤ p)

-- the ring was full at a head above each own position that was used; each one used later is at or above it
pub record IsBusy (world : World) (walk : Walk) (reply : Reply) : Type 0 where
  pub head : ℕ
  pub released : ℕ
  pub is : reply ≡ tells.Busy head released
  pub full : IsFull world.ring head released
  pub old_released : world.first ≤ released
  pub known : head ≤ world.known
  pub above_own : All (λ p. p < head) (take walk.used world.own)

-- each entry of a list has its own position, in the list's order, as one entry has; how many they are is shown, and the last position
pub record IsLoaded (world : World) (walk : Walk) (name : List ℕ) (entries : List Edge) (reply : Reply) : Type 0 where
  pub positions : List ℕ
  pub next : take (length entries) (drop walk.used world.own) ≡ positions
  pub so_many : length positions ≡ length entries
  pub rises : Rises walk.seen positions
  pub not_low : All (λ p. walk.low ≤ p) positions
  pub is : reply ≡ tells.Loaded name (length entries) (last_of positions)

-- a fresh front is shown
abbrev pub ShowsFresh : World → Walk → (ℕ → Reply) → Reply → Type 0
ShowsFresh world walk show reply = (n : ℕ) × (reply ≡ show n) × IsFresh world walk n

-- what is shown is asked of the log's first entries, as many as the front of the view at the place
abbrev pub IsRead : World → Walk → ℕ → Command → Reply → Type 0
IsRead world walk place command reply = (n : ℕ) × (walk.place_at place ≡ held.View n) × IsValue world.vertices (take n world.log) command reply

-- entries from a cursor on, up to a front or so many; they are the log's where the log file is told
pub record IsStretch (world : World) (most front from to : ℕ) (list : List Edge) : Type 0 where
  pub ends : to ≡ min (from + most) front
  pub so_many : from + length list ≡ to
  pub shown : world.told ≡ true → list ≡ drop from (take to world.log)

-- the entries from the stream's cursor on are shown, up to a fresh front or so many
pub record IsUpdated (world : World) (walk : Walk) (place most : ℕ) (reply : Reply) : Type 0 where
  pub front : ℕ
  pub from : ℕ
  pub to : ℕ
  pub list : List Edge
  pub from_cursor : walk.place_at place ≡ held.Stream from
  pub fresh : IsFresh world walk front
  pub stretch : IsStretch world most front from to list
  pub is : reply ≡ tells.Updated place from to list

-- the log is so long behind the old one
abbrev pub HasReached : World → Walk → ℕ → Reply → Type 0
HasReached world walk asked reply = (reply ≡ tells.Until asked) × (walk.first + asked ≤ length world.log)

-- a reply of a kind, to a command that puts these entries
abbrev pub IsRow : World → Walk → List Edge → Row → Reply → Type 0
IsRow world walk entries (entry show) reply = IsEntry world walk show reply
IsRow world walk entries offered reply = IsEntry world walk tells.Offered reply ⊎ IsBusy world walk reply
IsRow world walk entries (loaded name) reply = IsLoaded world walk name entries reply
IsRow world walk entries (viewed place) reply = ShowsFresh world walk (tells.Viewed place) reply
IsRow world walk entries (value place command) reply = IsRead world walk place command reply
IsRow world walk entries (streamed place) reply = ShowsFresh world walk (tells.Streamed place) reply
IsRow world walk entries (updated place most) reply = IsUpdated world walk place most reply
IsRow world walk entries (reached asked) reply = HasReached world walk asked reply
IsRow world walk entries synced reply = ShowsFresh world walk tells.Synced reply
IsRow world walk entries (word told) reply = reply ≡ told

-- the reply to a command
abbrev pub IsReply : World → Walk → Asked → Reply → Type 0
IsReply world walk a reply = IsRow world walk a.entries (row_of a.command) reply

-- what a place holds from now on
pub record Placed : Type 0 where
  pub place : ℕ
  pub holds : Place

-- what a reply makes of a walk: how many own positions it used, below what no later one is, how far the log was seen, and what a place holds then
pub record Effect : Type 0 where
  pub used : ℕ
  pub low : ℕ
  pub seen : ℕ
  pub placed : Option Placed

-- it uses so many positions; it says that later ones are not below a head; it sees a front; it leaves something at a place
abbrev pub uses : ℕ → Effect
uses count = record { used = count; low = 0; seen = 0; placed = None }

abbrev pub raises : ℕ → Effect
raises head = record { used = 0; low = head; seen = 0; placed = None }

abbrev pub sees : ℕ → Effect
sees front = record { used = 0; low = 0; seen = front; placed = None }

abbrev pub leaves : ℕ → Place → ℕ → Effect
leaves place holds front = record { used = 0; low = 0; seen = front; placed = Some (record { place = place; holds = holds }) }

-- the effect of a reply, over a log that was so long at opening
abbrev pub effect_of : ℕ → Reply → Effect
effect_of first (tells.Added position) = uses 1
effect_of first (tells.Deleted position) = uses 1
effect_of first (tells.Offered position) = uses 1
effect_of first (tells.Busy head released) = raises head
effect_of first (tells.Loaded name count last) = uses count
effect_of first (tells.Viewed place front) = leaves place (held.View front) front
effect_of first (tells.Degree vertex degree) = uses 0
effect_of first (tells.Neighbours vertex list) = uses 0
effect_of first (tells.Level root vertex level) = uses 0
effect_of first (tells.Levels root counts unreached) = uses 0
effect_of first (tells.Rank list) = uses 0
effect_of first (tells.Hop vertex list) = uses 0
effect_of first (tells.Dropped place) = leaves place held.Free 0
effect_of first (tells.Streamed place cursor) = leaves place (held.Stream cursor) cursor
effect_of first (tells.Updated place from to list) = leaves place (held.Stream to) to
effect_of first (tells.Closed place) = leaves place held.Free 0
effect_of first (tells.Until asked) = sees (first + asked)
effect_of first (tells.Synced front) = sees front
effect_of first tells.Compacted = uses 0

-- what is at each place, once one of them holds something else
abbrev pub places_with : Option Placed → (ℕ → Place) → ℕ → Place
places_with None place_at = place_at
places_with (Some now) place_at = λ k. if k == now.place then now.holds else place_at k

-- where a walk stands after an effect, and after a reply
abbrev pub led_by : Walk → Effect → Walk
led_by walk effect = record {
  first = walk.first;
  used = walk.used + effect.used;
  low = max walk.low effect.low;
  seen = max walk.seen effect.seen;
  place_at = places_with effect.placed walk.place_at;
}

abbrev pub after : Walk → Reply → Walk
after walk reply = led_by walk (effect_of walk.first reply)

-- where the walk stands after replies, from the beginning
abbrev pub walked : ℕ → List Reply → Walk
walked first replies = fold after (start first) replies

-- the replies to the first commands, as many as there are replies
abbrev pub Replies : World → Walk → List Asked → List Reply → Type 0
Replies world walk asked [] = Unit {0}
Replies world walk [] (reply ∷ replies) = ⊥
Replies world walk (a ∷ asked) (reply ∷ replies) = IsReply world walk a reply × Replies world (after walk reply) asked replies
