-- What a turn of a worker comes to for its seat.
use Rattle.std.specs.Prelude.{◌≡◌, ◌⊎◌, ℕ, ◌+◌, ◌^◌, ◌<◌, ◌≤◌, true, List, [], length, Contains, Option as Maybe, None, Some, Result, Ok, Err}
use mathlib.Core.Option.{none}
use Rattle.atomic_table.specs.Table.{Me, step}
use Rattle.go_api.specs.declared.stop.Stop.{Stop}
use Rattle.go_api.specs.declared.stop.Stop.TheVariants as stops
use Rattle.go_text.specs.Causes.{Rose}
use Rattle.go_word.specs.declared.edge.Edge.{Edge}
use Rattle.go_core.specs.Frame.{Frame}
use Rattle.go_core.specs.View.{unmoved}
use Rattle.go_disk.specs.Device.{Device}
use Rattle.go_shard.specs.ShardState.{ShardState}
use Rattle.go_rule.specs.declared.view.Stand.{Stand}
use Rattle.go_rule.specs.declared.view.SeatView.{SeatView}
use Rattle.go_rule.specs.Steps.{LoadsArchived}
use Rattle.go_rule.specs.Turns.{IsTaken}
use Rattle.go_rule.specs.Views.{with_raised}
use Rattle.go_ring.specs.Takes.{TakeIs, IsLongest}
use Rattle.go_turns.specs.Going.{HasGoneOn}
use Rattle.go_turns.specs.Holding.{Takes, Gives}
use Rattle.go_piece.specs.declared.piece.Piece.{Piece}
use Rattle.go_piece.specs.declared.piece.Piece.TheVariants.{Shard}
use Rattle.go_piece.specs.Pieces.{state_in, HasFailed, mark_in}
use Rattle.go_piece.specs.Meanings.{meaning_of, stretch}
use Rattle.go_workers.specs.declared.turn.Turn.{Turn}
use Rattle.go_workers.specs.declared.turn.Turn.TheVariants.{Moved, Idle}
use Rattle.go_workers.specs.Bringing.{IsCompactedTo}

module _ {P : Type 0} where
  -- a run of entries from a position on is what a seat has seen there, and it took all of it
  pub record HasRead (from : ℕ) (run : List Edge) (d : SeatView P) : Type 0 where
    pub taken : from + length run ≤ d.core.taken
    pub seen : from + length run ≤ length d.told.seen
    pub run_is : run ≡ stretch from (from + length run) d.told.seen
    pub small : from + length run < 2 ^ 32

  -- and it is the archiver, which took no more
  pub record MayBringOn (from : ℕ) (run : List Edge) (d : SeatView P) : Type 0 where
    pub read : HasRead from run d
    pub archives : d.core.archives ≡ true
    pub archived : from ≤ d.core.archived
    pub no_more : d.core.taken ≤ from + length run

  -- a seat that raised why it was stopped, where that was a fault of the disk
  abbrev pub raised_by : Maybe Stop → SeatView P → SeatView P
  raised_by None d = d
  raised_by (Some stops.Memory) d = d
  raised_by (Some stops.Disk) d = with_raised 1 d

  -- a seat knows that the part of a place stood at a front at least
  pub record KnowsStood (place front : ℕ) (d : SeatView P) : Type 0 where
    pub stand : Stand
    pub there : Contains d.stake.stood stand
    pub place_is : stand.place ≡ place
    pub far : front ≤ stand.front

module _ {P S : Type 0} (f : Frame) where
  -- a seat read a run of entries in their turn, from a position on, into so much room; what it knew of the front before that stayed so
  pub record HasRun (room from : ℕ) (run : List Edge) (me now : Me S (SeatView P)) : Type 0 where
    pub start : Me S (SeatView P)
    pub begun : HasGoneOn f me.0 start.0
    pub takes : TakeIs from room run start now
    pub longest : IsLongest f.slots room start.0 from (length run)

  -- a seat has gone on, has in its hand what it had, and knows of parts to have stood what it knew
  pub record HasTurned (me now : Me S (SeatView P)) : Type 0 where
    pub gone : HasGoneOn f me.0 now.0
    pub hand : now.1 ≡ me.1
    pub stood : (x : Stand) → Contains me.0.stake.stood x → Contains now.0.stake.stood x

  -- by turns alone: of the log it knows what it knew
  pub record HasServed (me now : Me S (SeatView P)) : Type 0 where
    pub turned : HasTurned me now
    pub core : unmoved now.0.core ≡ unmoved me.0.core
    pub told : now.0.told ≡ me.0.told

  -- a turn moved a front over the entries that it took from there on, one at least, as its seat knows then
  pub record Moves (room from front known : ℕ) (me now : Me S (SeatView P)) : Type 0 where
    pub run : List Edge
    pub then : Me S (SeatView P)
    pub ran : HasRun room from run me then
    pub some : 1 ≤ length run
    pub front_is : (front ≡ from + length run) × (known ≡ front)
    pub taken : front ≤ now.0.core.taken
    pub gone : HasGoneOn f me.0 now.0
    pub hand : now.1 ≡ me.1

  -- a turn found no entry to take from a front on, and left it
  pub record Rests (room from front known : ℕ) (me now : Me S (SeatView P)) : Type 0 where
    pub ran : HasRun room from [] me now
    pub front_is : (front ≡ from) × (known ≡ from)
    pub gone : HasGoneOn f me.0 now.0
    pub hand : now.1 ≡ me.1

  -- a turn of the archiver, over so many shards: it took just what is archived then
  abbrev pub Archives : ℕ → ℕ → Me S (SeatView P) → Turn → Me S (SeatView P) → Type 0
  Archives shards room me (Moved front) now =
      Moves room me.0.core.archived front now.0.core.archived me now × (now.0.core.taken ≡ front)
      × ((place : ℕ) → place < shards → Contains now.0.stake.stood (record { place = place; front = front }))
  Archives shards room me (Idle front) now = Rests room me.0.core.archived front now.0.core.archived me now × (now.0.core.taken ≡ front)

  -- a turn of the flusher, whose file lies at a place
  abbrev pub Flushes : ℕ → ℕ → Me S (SeatView P) → Turn → Me S (SeatView P) → Type 0
  Flushes place room me (Moved front) now =
      Moves room me.0.core.durable front now.0.core.durable me now
      × KnowsStood place front now.0
  Flushes place room me (Idle front) now = Rests room me.0.core.durable front now.0.core.durable me now

  -- a turn was refused: its seat, which had this view but for what it was to raise, has gone on, and knows the front as it was
  pub record Refused (was : SeatView P) (before known : ℕ) (me now : Me S (SeatView P)) : Type 0 where
    pub gone : HasGoneOn f was now.0
    pub front_is : known ≡ before
    pub hand : now.1 ≡ me.1

module _ {D : Type 0} (device : Device D) (f : Frame) where
  -- the file that a seat took at a place had failed, or its disk failed in the seat's hand
  pub record MeetsFault (place : ℕ) (d : SeatView (Piece D)) : Type 0 where
    pub old : Piece D
    pub new : Piece D
    pub then : SeatView (Piece D)
    pub went : HasGoneOn f d then
    pub taken : IsTaken (meaning_of device) f then place old
    pub cause : (HasFailed old × (new ≡ old)) ⊎ Rose (mark_in device old).faults (mark_in device new).faults

  -- the file was taken, appended to, and given back, with a fault of the disk raised before
  abbrev pub HasFiled : {A : Type 0} → ℕ → ℕ → Me (Maybe (Piece D)) (SeatView (Piece D)) → Result A Stop → Me (Maybe (Piece D)) (SeatView (Piece D)) → Type 0
  HasFiled place upto me (Ok done) now = HasServed f me now × KnowsStood place upto now.0
  HasFiled place upto me (Err stops.Memory) now = HasServed f me now
  HasFiled place upto me (Err stops.Disk) now = HasServed f (with_raised 1 me.0, me.1) now × MeetsFault place me.0

  -- a turn of the flusher was stopped: for want of memory it raised nothing, and a fault of the disk it raised
  abbrev pub Stops : ℕ → Me (Maybe (Piece D)) (SeatView (Piece D)) → Stop → Me (Maybe (Piece D)) (SeatView (Piece D)) → Type 0
  Stops place me stops.Memory now = Refused f me.0 me.0.core.durable now.0.core.durable me now
  Stops place me stops.Disk now = Refused f (with_raised 1 me.0) me.0.core.durable now.0.core.durable me now × MeetsFault place me.0

  -- the shard of a place was taken, compacted as far as the archived front lets it that was loaded with it in hand, and given back
  pub record CompactsAt (slots place : ℕ) (me now : Me (Maybe (Piece D)) (SeatView (Piece D))) : Type 0 where
    pub shards : ShardState × ShardState
    pub held : Me (Maybe (Piece D)) (SeatView (Piece D))
    pub loaded : Me (Maybe (Piece D)) (SeatView (Piece D))
    pub archived : ℕ
    pub takes : Takes (meaning_of device) f place (Shard shards.0) me held
    pub loads : LoadsArchived state_in f (step slots 1 0 0 none) held archived loaded
    pub compacted : IsCompactedTo archived shards.0 shards.1
    pub gives : Gives (meaning_of device) place (Shard shards.1) loaded now

  -- that was done in the course of turns
  pub record HasCompactedAt (slots place : ℕ) (me now : Me (Maybe (Piece D)) (SeatView (Piece D))) : Type 0 where
    pub before : Me (Maybe (Piece D)) (SeatView (Piece D))
    pub after : Me (Maybe (Piece D)) (SeatView (Piece D))
    pub begun : HasTurned f me before
    pub compacts : CompactsAt slots place before after
    pub ended : HasTurned f after now
