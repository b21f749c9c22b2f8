-- How far a session has come, and what its store then is.
use Rattle.std.specs.Prelude.{◌≡◌, ℕ, ◌+◌, ◌-◌, ◌<◌, ◌≤◌, true, List, [], ◌∷◌, ◌++◌, length, take, drop, slice_get, Option, Some, None, All, Contains}
use Rattle.go_word.specs.declared.edge.Edge.{Edge}
use Rattle.go_word.specs.Log.{IsWithin as IsEntryWithin}
use Rattle.go_api.specs.declared.place.TheConstants.{PLACES}
use Rattle.go_api.specs.Standing.{Standing, IsSound, Onward}
use Rattle.go_api.specs.Calls.{TellsMet}
use Rattle.go_api.specs.declared.place.Place.{Place}
use Rattle.go_api.specs.declared.place.Place.TheVariants as held
use Rattle.go_api.specs.declared.stop.Stop.{Stop}
use Rattle.go_script.specs.declared.command.Command.{Command}
use Rattle.go_script.specs.declared.command.Command.TheVariants.{Until}
use Rattle.go_script.specs.declared.usage.Kind.{Kind}
use Rattle.go_script.specs.declared.usage.Kind.TheVariants as kinds
use Rattle.go_script.specs.Places.{IsWithin, IsScript, kind_at}
use Rattle.go_report.specs.declared.reply.Reply.{Reply}
use Rattle.go_report.specs.declared.reply.Reply.TheVariants.{Synced}
use Rattle.go_session.specs.Asked.{Asked, asked_with, lists_of, may_put, put_by_answered}
use Rattle.go_session.specs.Walk.{World, Walk, Replies, start, walked}
use Rattle.go_session.specs.declared.session.Step.{Step}
use Rattle.go_session.specs.declared.session.Step.TheVariants.{Did, Waits, Ended, Stopped}

-- a session: its number, how long the log was at opening as far as it was told, its commands, the number of the list that each of its loads puts, and its
-- replies to the first commands
pub record SessionState : Type 0 where
  pub number : ℕ
  pub first : ℕ
  pub commands : List Command
  pub lists : List ℕ
  pub replies : List Reply

-- a session that has answered nothing
abbrev pub unanswered : ℕ → List Command → List ℕ → SessionState
unanswered number commands lists = record { number = number; first = 0; commands = commands; lists = lists; replies = [] }

-- what its commands ask for, where these lists were loaded
abbrev pub asked_in : List (List Edge) → SessionState → List Asked
asked_in loads session = asked_with session.commands (lists_of loads session.lists)

-- of these, what it has still to answer
abbrev pub asked_left : List (List Edge) → SessionState → List Asked
asked_left loads session = drop (length session.replies) (asked_in loads session)

-- the entries that it has put, as its replies tell
abbrev pub put_in : List (List Edge) → SessionState → List Edge
put_in loads session = put_by_answered (asked_in loads session) session.replies

-- what replies may speak of, as far as a handle has seen
abbrev pub world_of : Standing → World
world_of s = record {
  first = s.terms.first;
  vertices = s.terms.vertices;
  ring = s.terms.ring;
  told = s.terms.told;
  own = s.own;
  log = s.log.seen;
  known = s.log.known;
}

-- where the walk over the replies of a session stands
abbrev pub walk_of : Standing → SessionState → Walk
walk_of s session = walked s.terms.first session.replies

-- what kind of thing stands at a place
abbrev pub kind_of : Place → Option Kind
kind_of held.Free = None
kind_of (held.View front) = Some kinds.View
kind_of (held.Stream cursor) = Some kinds.Stream

-- a session's script and its lists are over the vertices of its store, and no more of the script was answered than there is
pub record FollowsScript (loads : List (List Edge)) (session : SessionState) (s : Standing) : Type 0 where
  pub below : IsWithin s.terms.vertices session.commands
  pub entries : All (IsEntryWithin s.terms.vertices) (may_put (asked_in loads session))
  pub script : IsScript session.commands
  pub some : length session.replies ≤ length session.commands

-- each place holds what the walk has there, and the answered commands have left something of the kind there
pub record HoldsPlaces (session : SessionState) (s : Standing) : Type 0 where
  pub places : (k : ℕ) → k < PLACES → slice_get s.places k ≡ Some ((walk_of s session).place_at k)
  pub kinds : (k : ℕ) → k < PLACES → kind_at k (take (length session.replies) session.commands) ≡ kind_of ((walk_of s session).place_at k)

-- what holds of a session's replies over its store, whether it can go on or not: the walk allows them over what was seen; the session was told how long the
-- log was at opening; no later position of its own is below what they say; and each front that they tell durable is
pub record AreAllowed (loads : List (List Edge)) (session : SessionState) (s : Standing) : Type 0 where
  pub sound : IsSound s
  pub follows : FollowsScript loads session s
  pub allowed : Replies (world_of s) (start s.terms.first) (asked_in loads session) session.replies
  pub told_first : 0 < length session.replies → session.first ≡ s.terms.first
  pub seen : (walk_of s session).seen ≤ s.log.floor
  pub low : (walk_of s session).low ≤ s.log.known
  pub synced : (front : ℕ) → Contains session.replies (Synced front) → front ≤ s.log.durable

-- a store is where the replies of a session have brought it: own positions, entries and places are those of the answered commands
pub record IsAt (loads : List (List Edge)) (session : SessionState) (s : Standing) : Type 0 where
  pub allowed : AreAllowed loads session s
  pub used : (walk_of s session).used ≡ length s.own
  pub put : s.edges ≡ put_in loads session
  pub places : HoldsPlaces session s

-- besides, the store takes all that the commands left may put
pub record CanGoOn (loads : List (List Edge)) (session : SessionState) (s : Standing) : Type 0 where
  pub at : IsAt loads session s
  pub quota : length (may_put (asked_left loads session)) ≤ s.quota

-- the entries of the first command that has no reply; none where all have
abbrev pub next_entries : List Asked → List Edge
next_entries [] = []
next_entries (a ∷ asked) = a.entries

-- a store stopped a session: besides the entries of the answered commands some first ones of the next command were put, and not all of them; their positions
-- are not below what the session had seen, nor below what it said that no later one is
pub record IsHalted (loads : List (List Edge)) (session : SessionState) (s : Standing) : Type 0 where
  pub allowed : AreAllowed loads session s
  pub count : ℕ
  pub fewer : count ≤ length (next_entries (asked_left loads session)) - 1
  pub used : (walk_of s session).used + count ≡ length s.own
  pub put : s.edges ≡ put_in loads session ++ take count (next_entries (asked_left loads session))
  pub behind_seen : All (λ p. (walk_of s session).seen ≤ p) (drop (walk_of s session).used s.own)
  pub behind_low : All (λ p. (walk_of s session).low ≤ p) (drop (walk_of s session).used s.own)

-- a session as it was, told how long the log was at opening
abbrev pub told : Standing → SessionState → SessionState
told s session = record session { first = s.terms.first }

-- one command more was answered, and the session can go on
pub record HasAnswered (loads : List (List Edge)) (old new : SessionState) (before after : Standing) : Type 0 where
  pub reply : Reply
  pub replied : new ≡ record (told before old) { replies = old.replies ++ reply ∷ [] }
  pub onward : Onward before after
  pub goes_on : CanGoOn loads new after

-- the next command is an `until` whose front isn't seen yet, and the session can go on
pub record HasWaited (loads : List (List Edge)) (seen : ℕ) (old new : SessionState) (before after : Standing) : Type 0 where
  pub same : new ≡ told before old
  pub asked : ℕ
  pub next : slice_get old.commands (length old.replies) ≡ Some (Until asked)
  pub below : seen < before.terms.first + asked
  pub onward : Onward before after
  pub goes_on : CanGoOn loads new after

-- the store stopped: the session is as it was, and its replies stand
pub record HasStopped (loads : List (List Edge)) (why : Stop) (old new : SessionState) (before after : Standing) : Type 0 where
  pub same : new ≡ told before old
  pub onward : Onward before after
  pub halted : IsHalted loads new after
  pub met : TellsMet why after

-- all commands were answered, and nothing was done
pub record HasEnded (old new : SessionState) (before after : Standing) : Type 0 where
  pub all : length old.replies ≡ length old.commands
  pub same : new ≡ old
  pub untouched : after ≡ before

-- what a step did
abbrev pub Stepped : List (List Edge) → Step → SessionState → SessionState → Standing → Standing → Type 0
Stepped loads Did old new before after = HasAnswered loads old new before after
Stepped loads (Waits seen) old new before after = HasWaited loads seen old new before after
Stepped loads Ended old new before after = HasEnded old new before after
Stepped loads (Stopped why) old new before after = HasStopped loads why old new before after
