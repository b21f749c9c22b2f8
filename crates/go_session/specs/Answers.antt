-- What a command needs of a store, and what its answer makes of it.
use Rattle.std.specs.Prelude.{◌≡◌, ◌⊎◌, ℕ, ◌+◌, ◌-◌, ◌<◌, ◌≤◌, List, [], ◌++◌, ◌∷◌, length, take, Result, Ok, Err, Option, All, Bool, false, true}
use Rattle.go_word.specs.declared.edge.Edge.{Edge}
use Rattle.go_api.specs.Calls.{MayPut, Holds, CanRead, CanStream, IsPut, IsBusy, PutsAll, IsViewed, IsRead, IsStarted, IsUpdated, HasReached, IsSynced}
use Rattle.go_api.specs.Calls.{IsPlacedAt, OnlySees, TellsMet}
use Rattle.go_api.specs.Standing.{Standing, Onward}
use Rattle.go_api.specs.declared.answers.Reached.{Reached}
use Rattle.go_api.specs.declared.answers.Reached.TheVariants.{NotYet}
use Rattle.go_api.specs.declared.answers.Span.{Span}
use Rattle.go_api.specs.declared.limits.TheConstants.{LOG_ENTRIES}
use Rattle.go_api.specs.declared.place.Place.TheVariants as held
use Rattle.go_api.specs.declared.stop.Stop.{Stop}
use Rattle.go_script.specs.Commands.{entry_of, put_by}
use Rattle.go_script.specs.declared.command.Command.{Command}
use Rattle.go_script.specs.declared.command.Command.TheVariants as asks
use Rattle.go_report.specs.declared.reply.Reply.{Reply}
use Rattle.go_report.specs.declared.reply.Reply.TheVariants as tells
use Rattle.go_session.specs.Asked.{entries_given}
use Rattle.go_session.specs.Searches.{IsViewAt}
use Rattle.go_session.specs.Value.{IsValue}
use Rattle.go_session.specs.Walk.{Row, row_of}
use Rattle.go_session.specs.Walk.Row.{entry, offered, loaded, viewed, value, streamed, updated, reached, synced, word}
use Rattle.go_session.specs.declared.asking.Outcome.{Outcome}
use Rattle.go_session.specs.declared.asking.Outcome.TheVariants as comes

-- what a command needs of the store, where it puts these entries if it is a load
abbrev pub Suits : Command → List Edge → Standing → Type 0
Suits (asks.Add src dst) given s = MayPut (entry_of false src dst ∷ []) s
Suits (asks.Del src dst) given s = MayPut (entry_of true src dst ∷ []) s
Suits (asks.Offer src dst) given s = MayPut (entry_of false src dst ∷ []) s
Suits (asks.Load name) given s = MayPut given s
Suits (asks.View place) given s = Holds place held.Free s
Suits (asks.Drop place) given s = (front : ℕ) × Holds place (held.View front) s
Suits (asks.Degree place vertex) given s = CanRead place vertex s
Suits (asks.Neigh place vertex) given s = CanRead place vertex s
Suits (asks.Hop place vertex) given s = IsViewAt place s × (vertex < s.terms.vertices)
Suits (asks.Level place root vertex) given s = IsViewAt place s × (root < s.terms.vertices) × (vertex < s.terms.vertices)
Suits (asks.Bfs place root) given s = IsViewAt place s × (root < s.terms.vertices)
Suits (asks.Rank place count) given s = IsViewAt place s
Suits (asks.Stream place) given s = Holds place held.Free s
Suits (asks.Close place) given s = (cursor : ℕ) × Holds place (held.Stream cursor) s
Suits (asks.Update place most) given s = CanStream place most s
Suits (asks.Until asked) given s = asked ≤ LOG_ENTRIES
Suits asks.Sync given s = Unit {0}
Suits asks.Compact given s = Unit {0}

-- one entry was put, and its position is shown
pub record IsEntryPut (show : ℕ → Reply) (entries : List Edge) (reply : Reply) (before after : Standing) : Type 0 where
  pub edge : Edge
  pub position : ℕ
  pub one : entries ≡ edge ∷ []
  pub is : reply ≡ show position
  pub put : IsPut edge position before after

-- the ring was full, and this is shown
pub record IsTurnedAway (reply : Reply) (before after : Standing) : Type 0 where
  pub head : ℕ
  pub released : ℕ
  pub is : reply ≡ tells.Busy head released
  pub busy : IsBusy head released before after

-- what is shown is asked of the entries that the view at a place shows
pub record IsAskedOf (place : ℕ) (command : Command) (reply : Reply) (before after : Standing) : Type 0 where
  pub read : IsRead before after
  pub value : (front : ℕ) → Holds place (held.View front) before → IsValue before.terms.vertices (take front before.log.seen) command reply

-- a stream gave entries, and they are shown
pub record HasStreamed (place most : ℕ) (reply : Reply) (before after : Standing) : Type 0 where
  pub span : Span
  pub list : List Edge
  pub is : reply ≡ tells.Updated place span.from span.to list
  pub updated : IsUpdated place most list span before after

-- what a reply of words alone tells was done
abbrev pub Does : Reply → Standing → Standing → Type 0
Does (tells.Dropped place) before after = IsPlacedAt place held.Free before after
Does (tells.Closed place) before after = IsPlacedAt place held.Free before after
Does tells.Compacted before after = OnlySees before after
Does _ before after = ⊥

-- what a reply of a kind makes of the store, to a command that puts these entries
abbrev pub Answered : Row → List Edge → Reply → Standing → Standing → Type 0
Answered (entry show) entries reply before after = IsEntryPut show entries reply before after
Answered offered entries reply before after = IsEntryPut tells.Offered entries reply before after ⊎ IsTurnedAway reply before after
Answered (loaded name) entries reply before after =
    (last : Option ℕ) × (reply ≡ tells.Loaded name (length entries) last) × PutsAll entries last before after
Answered (viewed place) entries reply before after = (front : ℕ) × (reply ≡ tells.Viewed place front) × IsViewed place front before after
Answered (value place command) entries reply before after = IsAskedOf place command reply before after
Answered (streamed place) entries reply before after = (cursor : ℕ) × (reply ≡ tells.Streamed place cursor) × IsStarted place cursor before after
Answered (updated place most) entries reply before after = HasStreamed place most reply before after
Answered (reached asked) entries reply before after =
    (front : ℕ) × (reply ≡ tells.Until asked) × HasReached (before.terms.first + asked) front before after
Answered synced entries reply before after = (front : ℕ) × (reply ≡ tells.Synced front) × IsSynced front before after
Answered (word told) entries reply before after = (reply ≡ told) × Does told before after

-- the store doesn't see the log so far as the command waits for, and so its own look said
pub record IsWaiting (looked : ℕ → Reached → Type 0) (command : Command) (seen : ℕ) (before after : Standing) : Type 0 where
  pub asked : ℕ
  pub waits : command ≡ asks.Until asked
  pub sees : OnlySees before after
  pub below : seen < before.terms.first + asked
  pub look : looked (before.terms.first + asked) (NotYet seen)

-- these entries were put, at positions behind what was known
pub record PutsThese (entries : List Edge) (positions : List ℕ) (before after : Standing) : Type 0 where
  pub owned : after.own ≡ before.own ++ positions
  pub put : after.edges ≡ before.edges ++ entries
  pub so_many : length positions ≡ length entries
  pub behind : All (λ p. before.log.known ≤ p) positions

-- the store stopped: some first ones of the entries were put, and not all of them
pub record IsBroken (entries : List Edge) (why : Stop) (before after : Standing) : Type 0 where
  pub count : ℕ
  pub fewer : count ≤ length entries - 1
  pub positions : List ℕ
  pub onward : Onward before after
  pub put : PutsThese (take count entries) positions before after
  pub met : TellsMet why after

-- the command that puts an addition or a deletion, and the reply that shows its position
abbrev pub asking : Bool → ℕ → ℕ → Command
asking false src dst = asks.Add src dst
asking true src dst = asks.Del src dst

abbrev pub showing : Bool → ℕ → Reply
showing false position = tells.Added position
showing true position = tells.Deleted position

-- the entries that a command puts, where it puts these if it is a load
abbrev pub entries_by : Command → List Edge → List Edge
entries_by command given = entries_given (put_by command) (given ∷ [])

-- what a store makes of a command
abbrev pub Answers : (ℕ → Reached → Type 0) → Command → List Edge → Result Outcome Stop → Standing → Standing → Type 0
Answers looked command given (Ok (comes.Told reply)) before after = Answered (row_of command) (entries_by command given) reply before after
Answers looked command given (Ok (comes.NotYet seen)) before after = IsWaiting looked command seen before after
Answers looked command given (Err why) before after = IsBroken (entries_by command given) why before after
