-- How far sessions come over one store by turns, and what is then written.
use Rattle.std.specs.Prelude.{◌≡◌, ◌⊎◌, ℕ, ◌+◌, ◌<◌, ◌≤◌, ◌^◌, is_some, Bool, true, false}
use Rattle.std.specs.Prelude.{List, [], length, take, map, flat_map, slice_get, All, Option, Some, None}
use Rattle.go_word.specs.declared.edge.Edge.{Edge}
use Rattle.go_api.specs.Standing.{Terms}
use Rattle.go_api.specs.declared.limits.TheConstants.{LOG_ENTRIES}
use Rattle.go_api.specs.declared.stop.Stop.{Stop}
use Rattle.go_api.specs.declared.stop.Stop.TheVariants as stops
use Rattle.go_disk.specs.Device.{Device}
use Rattle.go_durable.specs.Journal.{journal_front}
use Rattle.go_durable.specs.declared.fault.OpenFault.{OpenFault}
use Rattle.go_durable.specs.declared.fault.OpenFault.TheVariants as faults
use Rattle.go_durable.specs.declared.finished.Finished.{Finished}
use Rattle.go_durable.specs.declared.limits.TheConstants.{FILE_LIMIT}
use Rattle.go_io.specs.Sink.{SinkState, Takes, TakesPrefix}
use Rattle.go_plain.specs.Owners.{HasOwners}
use Rattle.go_plain.specs.Plain.{PlainState, standing_of, GoesOnBy, LooksAt, HasEnded}
use Rattle.go_report.specs.ReplyText.{text_of_session}
use Rattle.go_session.specs.Asked.{lists_of, may_put}
use Rattle.go_session.specs.Cut.{shown}
use Rattle.go_session.specs.Drives.{Drives, BrokenOff}
use Rattle.go_session.specs.Looks.{HasLooked}
use Rattle.go_session.specs.Session.{SessionState, CanGoOn, IsHalted, Stepped, asked_left}
use Rattle.go_session.specs.declared.session.Step.{Step}
use Rattle.go_run.specs.Input.{Task}
use Rattle.go_run.specs.Ran.{TakesSome}
use Rattle.go_run.specs.Reading.{WaitsForCertain}
use Rattle.go_run.specs.Turns.{aim_of, commands_left, total_put, HasDone, IsQuiet}
use Rattle.go_run.specs.declared.status.Status.{Status}
use Rattle.go_run.specs.declared.status.Status.TheVariants.{Done, TooMuch, NotALog, OtherVertices, DiskFault, WriteFault, Memory}
use Rattle.go_run.specs.declared.turns.Round.{Round}
use Rattle.go_run.specs.declared.turns.Round.TheVariants.{Goes, Ended, Stopped}

-- the tasks that sessions are to do, where these lists were loaded
abbrev pub tasks_in : List (List Edge) → List SessionState → List Task
tasks_in loads sessions = map (λ session. record { commands = session.commands; lists = lists_of loads session.lists }) sessions

-- the loads of a session name lists that are there
abbrev pub NamesLists : List (List Edge) → SessionState → Type 0
NamesLists loads session = All (λ n. n < length loads) session.lists

-- how many entries a session may yet put
abbrev pub quota_in : List (List Edge) → SessionState → ℕ
quota_in loads session = length (may_put (asked_left loads session))

-- a session can take its turn over a store: it can go on, and its loads name lists that are there
pub record CanTurn {D : Type 0} (device : Device D) (loads : List (List Edge)) (store : PlainState D) (number : ℕ) (session : SessionState) : Type 0 where
  pub can : CanGoOn loads session (standing_of device store number)
  pub lists : NamesLists loads session

-- at most 8 sessions share a store, and put each entry that it has behind the old log
pub record IsSharedBy {D : Type 0} (sessions : List SessionState) (store : PlainState D) : Type 0 where
  pub few : length sessions ≤ 8
  pub count : length store.seats ≡ length sessions
  pub owners : HasOwners (length store.seats) store.origin.first store.log store.owners

-- the sessions of a store can all take their turns; they are numbered from one on
pub record CanAllTurn {D : Type 0} (device : Device D) (loads : List (List Edge)) (sessions : List SessionState) (store : PlainState D) : Type 0 where
  pub shared : IsSharedBy sessions store
  pub each : (i : ℕ) (session : SessionState) → slice_get sessions i ≡ Some session → CanTurn device loads store (i + 1) session

-- the sessions of a store stand over it, of which one may have been stopped
pub record AreHalted {D : Type 0} (device : Device D) (loads : List (List Edge)) (sessions : List SessionState) (store : PlainState D) : Type 0 where
  pub shared : IsSharedBy sessions store
  pub each : (i : ℕ) (session : SessionState) → slice_get sessions i ≡ Some session → IsHalted loads session (standing_of device store (i + 1))

-- sessions go on over one store: each keeps what it is to do, the log only grows, and so does what of it is durable
pub record GoOnOver {D : Type 0} (olds news : List SessionState) (old new : PlainState D) : Type 0 where
  pub aims : map aim_of news ≡ map aim_of olds
  pub origin : new.origin ≡ old.origin
  pub room : new.room ≡ old.room
  pub begins : take (length old.log) new.log ≡ old.log
  pub longer : length old.log ≤ length new.log
  pub no_less : journal_front old.journal ≤ journal_front new.journal

-- a session in its turn: its number, itself, and the store
pub record InTurn (D : Type 0) : Type 0 where
  pub number : ℕ
  pub session : SessionState
  pub store : PlainState D

abbrev pub in_turn : {D : Type 0} → ℕ → SessionState → PlainState D → InTurn D
in_turn number session store = record { number = number; session = session; store = store }

-- a session took its turn
pub record HasTurned {D : Type 0} (device : Device D) (loads : List (List Edge)) (step : Step) (old new : InTurn D) : Type 0 where
  pub stepped : Stepped loads step old.session new.session (standing_of device old.store old.number) (standing_of device new.store old.number)
  pub looked : HasLooked (LooksAt old.store) step old.session (standing_of device old.store old.number)
  pub became : GoesOnBy device old.number old.store new.store
  pub owners : HasOwners (length new.store.seats) new.store.origin.first new.store.log new.store.owners

-- sessions went on, and can go on further; fewer commands are left
pub record HaveGone {D : Type 0} (device : Device D) (loads : List (List Edge)) (olds news : List SessionState) (old new : PlainState D) : Type 0 where
  pub can : CanAllTurn device loads news new
  pub onward : GoOnOver olds news old new
  pub fewer : commands_left news < commands_left olds

-- they all have come to their ends
pub record HaveEnded {D : Type 0} (device : Device D) (loads : List (List Edge)) (olds news : List SessionState) (old new : PlainState D) : Type 0 where
  pub can : CanAllTurn device loads news new
  pub onward : GoOnOver olds news old new
  pub all : All HasDone news

-- one of them was stopped
pub record HaveStopped {D : Type 0} (device : Device D) (loads : List (List Edge)) (olds news : List SessionState) (old new : PlainState D) : Type 0 where
  pub halted : AreHalted device loads news new
  pub onward : GoOnOver olds news old new

-- sessions in a round: how they and the store are, how many had their turns, and whether a command was answered
pub record Turns (D : Type 0) : Type 0 where
  pub sessions : List SessionState
  pub store : PlainState D
  pub turns : ℕ
  pub answered : Bool

abbrev pub at_turn : {D : Type 0} → List SessionState → PlainState D → ℕ → Bool → Turns D
at_turn sessions store turns answered = record { sessions = sessions; store = store; turns = turns; answered = answered }

-- in a round fewer commands are left where one was answered, and else the sessions that had their turns are quiet
pub record InRound {D : Type 0} (device : Device D) (loads : List (List Edge)) (olds : List SessionState) (begun : PlainState D) (now : Turns D) : Type 0 where
  pub can : CanAllTurn device loads now.sessions now.store
  pub onward : GoOnOver olds now.sessions begun now.store
  pub no_more : commands_left now.sessions ≤ commands_left olds
  pub fewer : now.answered ≡ true → commands_left now.sessions < commands_left olds
  pub quiet : now.answered ≡ false → (k : ℕ) (session : SessionState) → k < now.turns → slice_get now.sessions k ≡ Some session →
      IsQuiet (total_put loads now.sessions) session

-- what a round comes to, in which each session takes its turn
abbrev pub Rounds : {D : Type 0} → Device D → List (List Edge) → Round → List SessionState → List SessionState → PlainState D → PlainState D → Type 0
Rounds device loads Goes olds news old new = HaveGone device loads olds news old new
Rounds device loads Ended olds news old new = HaveEnded device loads olds news old new
Rounds device loads (Stopped why) olds news old new = HaveStopped device loads olds news old new

-- what round after round comes to, by what stopped a session
abbrev pub Comes : {D : Type 0} → Device D → List (List Edge) → Option Stop → List SessionState → List SessionState → PlainState D → PlainState D → Type 0
Comes device loads None olds news old new = HaveEnded device loads olds news old new
Comes device loads (Some why) olds news old new = HaveStopped device loads olds news old new

-- sessions can be driven over a store that was just made: no entry is behind the old log, which is durable, and no `until` waits for more than is certain
-- to come
pub record CanDrive {D : Type 0} (device : Device D) (loads : List (List Edge)) (sessions : List SessionState) (store : PlainState D) : Type 0 where
  pub can : CanAllTurn device loads sessions store
  pub waits : WaitsForCertain loads sessions
  pub new : store.origin.first ≡ length store.log
  pub durable : length store.log ≤ journal_front store.journal

-- the terms on which the sessions of a store see its log
abbrev pub terms_of : {D : Type 0} → Device D → PlainState D → Terms
terms_of device store = record {
  first = store.origin.first;
  vertices = store.origin.vertices;
  ring = store.room;
  told = is_some (device.contents store.origin.disk);
}

-- each session that has replies was told how long the log was at opening
abbrev pub IsTold : ℕ → SessionState → Type 0
IsTold first session = 0 < length session.replies → session.first ≡ first

-- sessions were driven over a store as far as they come, and then the store ended: what they come to over the log that it has then, whatever is durable of it
pub record HasDriven {D : Type 0} (device : Device D) (loads : List (List Edge)) (olds : List SessionState) (begun : PlainState D) (news : List SessionState)
    (stop : Option Stop) (finished : Finished D) : Type 0 where
  pub store : PlainState D
  pub onward : GoOnOver olds news begun store
  pub told : All (IsTold store.origin.first) news
  pub drives : Drives (terms_of device store) loads begun.log store.log finished.durable news stop
  pub broken : BrokenOff (terms_of device store) loads begun.log store.log finished.durable news
  pub ended : HasEnded device store finished

-- the text of sessions, cut at a front where one is given
abbrev pub text_shown : List SessionState → Option ℕ → List ℕ
text_shown sessions durable =
    flat_map (λ session. text_of_session session.number (shown durable session.first session.commands session.replies)) sessions

-- what is written of a run that came to its end
abbrev pub PrintsAll : List SessionState → SinkState → SinkState → Status → Type 0
PrintsAll sessions before after Done = Takes before after (text_shown sessions None)
PrintsAll sessions before after WriteFault = TakesPrefix before after (text_shown sessions None)
PrintsAll sessions before after Memory = after ≡ before
PrintsAll sessions before after _ = ⊥

-- what is written of one in which the disk failed
abbrev pub PrintsCut : List SessionState → ℕ → SinkState → SinkState → Status → Type 0
PrintsCut sessions durable before after DiskFault = TakesSome before after (text_shown sessions (Some durable))
PrintsCut sessions durable before after Memory = after ≡ before
PrintsCut sessions durable before after _ = ⊥

-- how a run ends by what stopped a session and what stopped the store's end: all is written where nothing did, what rests on durable entries where
-- the disk failed, and nothing where memory ran out
abbrev pub Concludes : Option Stop → Option Stop → List SessionState → ℕ → SinkState → SinkState → Status → Type 0
Concludes None None sessions durable before after status = PrintsAll sessions before after status
Concludes (Some why) None sessions durable before after status = (status ≡ Memory) × (after ≡ before)
Concludes stop (Some stops.Disk) sessions durable before after status = PrintsCut sessions durable before after status
Concludes stop (Some stops.Memory) sessions durable before after status = (status ≡ Memory) × (after ≡ before)

-- the status that tells why an opening was refused, where so many vertices were asked for and so many entries are to be put
abbrev pub refusal_of : {D : Type 0} → ℕ → ℕ → OpenFault D → Status
refusal_of asked puts (faults.Bad bad disk) = NotALog bad.at bad.kind
refusal_of asked puts (faults.Vertices file disk) = OtherVertices file asked
refusal_of asked puts (faults.TooLong len disk) = TooMuch len FILE_LIMIT
refusal_of asked puts (faults.TooMany count disk) = TooMuch (puts + count) LOG_ENTRIES
refusal_of asked puts (faults.Disk disk) = DiskFault
refusal_of asked puts (faults.Memory disk) = Memory

-- a count of entries that is too many is a number of 64 bits, with those to be put
abbrev pub CountFits : {D : Type 0} → ℕ → OpenFault D → Type 0
CountFits puts (faults.TooMany count disk) = puts + count < 2 ^ 64
CountFits puts (faults.Bad bad disk) = Unit {0}
CountFits puts (faults.Vertices file disk) = Unit {0}
CountFits puts (faults.TooLong len disk) = Unit {0}
CountFits puts (faults.Disk disk) = Unit {0}
CountFits puts (faults.Memory disk) = Unit {0}
