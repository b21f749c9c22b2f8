-- The log of a run: how it goes on behind the old one, and what of it a crash leaves.
use Rattle.std.specs.Prelude.{◌≡◌, ℕ, ◌+◌, ◌≤◌, true, List, [], ◌∷◌, length, map, take, flat_map, IfSome}
use Rattle.go_word.specs.declared.edge.Edge.{Edge}
use Rattle.go_api.specs.Standing.{Terms}
use Rattle.go_api.specs.declared.limits.TheConstants.{LOG_ENTRIES}
use Rattle.go_blocks.specs.File.{File}
use Rattle.go_disk.specs.Disk.{Only}
use Rattle.go_durable.specs.Appending.{HasImage}
use Rattle.go_durable.specs.Moments.{SettlesTo}
use Rattle.go_durable.specs.Recovery.{Recovers, RecoversPart}
use Rattle.go_durable.specs.declared.limits.TheConstants.{FILE_LIMIT}
use Rattle.go_report.specs.ReplyText.{text_of_session}
use Rattle.go_session.specs.Drives.{Complete, BrokenOff, cut_at}
use Rattle.go_session.specs.Session.{SessionState}
use Rattle.go_session.specs.Asked.{lists_of}
use Rattle.go_run.specs.Input.{Task, count_of}
use Rattle.go_run.specs.Run.{Run}

-- the sessions of tasks, numbered from one on: each has its task's commands, and its lists are the task's among those that were loaded
abbrev pub AreOf : ℕ → List (List Edge) → List Task → List SessionState → Type 0
AreOf number loads [] [] = Unit {0}
AreOf number loads [] (session ∷ sessions) = ⊥
AreOf number loads (task ∷ tasks) [] = ⊥
AreOf number loads (task ∷ tasks) (session ∷ sessions) =
    (session.number ≡ number) × (session.commands ≡ task.commands) × (lists_of loads session.lists ≡ task.lists) × AreOf (number + 1) loads tasks sessions

-- the log of a run: the old one, all of it, and the terms on which sessions see it
pub record Course : Type 0 where
  pub old : List Edge
  pub log : List Edge
  pub terms : Terms

-- bytes on which tasks can be run: they are no longer than a log file may be and recover to this log, and with what the tasks put it isn't too long
pub record IsLogFor (v : ℕ) (tasks : List Task) (log : List Edge) (bytes : List ℕ) : Type 0 where
  pub fits : length bytes ≤ FILE_LIMIT
  pub recovers : Recovers v log bytes
  pub few : count_of tasks + length log ≤ LOG_ENTRIES

-- the terms are those of the run: its old log, its vertices and its ring; and what is read of the log file is told where the disk tells at entry
pub record HasTerms {D : Type 0} (run : Run D) (course : Course) : Type 0 where
  pub first : course.terms.first ≡ length course.old
  pub vertices : course.terms.vertices ≡ run.vertices
  pub ring : course.terms.ring ≡ run.ring
  pub told : IfSome (run.device.contents run.begun) (λ bytes. course.terms.told ≡ true)

-- over a disk, the old log is what the bytes at entry recover to, where the disk tells, and the tasks can be run on them; and up to the opening's first sync
-- that succeeds a crash left what it may leave at entry, and from then on a part of the log that has the old one
pub record KeepsLog {D : Type 0} (run : Run D) (tasks : List Task) (course : Course) (ended : D) : Type 0 where
  pub had : IfSome (run.device.contents run.begun) (IsLogFor run.vertices tasks course.old)
  pub terms : HasTerms run course
  pub moments : SettlesTo run.device run.begun ended (RecoversPart run.vertices (length course.old) course.log)

-- a crash leaves a file of just this log and nothing else; where the disk told at entry it leaves one
pub record LeavesFile {D : Type 0} (run : Run D) (log : List Edge) (ended : D) : Type 0 where
  pub only : Only (run.device.contents ended) (run.device.images ended)
  pub each : (image : List ℕ) → run.device.images ended image → File run.vertices log image
  pub one : IfSome (run.device.contents run.begun) (λ bytes. HasImage (run.device.images ended) (File run.vertices log))

-- a crash leaves a part of the log with at least the durable entries, which have the old ones; where the disk told at entry it may leave just these
pub record LeavesPart {D : Type 0} (run : Run D) (course : Course) (durable : ℕ) (ended : D) : Type 0 where
  pub least : length course.old ≤ durable
  pub most : durable ≤ length course.log
  pub each : (image : List ℕ) → run.device.images ended image → RecoversPart run.vertices durable course.log image
  pub one : IfSome (run.device.contents run.begun) (λ bytes. HasImage (run.device.images ended) (Recovers run.vertices (take durable course.log)))

-- the text of sessions: that of each, one after another
abbrev pub text_of_all : List SessionState → List ℕ
text_of_all sessions = flat_map (λ session. text_of_session session.number session.replies) sessions

-- the sessions of a run
pub record Sessions (tasks : List Task) : Type 0 where
  pub loads : List (List Edge)
  pub sessions : List SessionState
  pub are : AreOf 1 loads tasks sessions

-- all commands were answered over one log, all that they put is in it, and a crash leaves a file of just this log; the text of the replies was taken so
pub record Completes {D : Type 0} (run : Run D) (tasks : List Task) (ended : D) (IsTaken : List ℕ → Type 0) : Type 0 where
  pub course : Course
  pub of : Sessions tasks
  pub keeps : KeepsLog run tasks course ended
  pub complete : Complete course.terms of.loads course.old course.log of.sessions
  pub left : LeavesFile run course.log ended
  pub taken : IsTaken (text_of_all of.sessions)

-- the sessions were stopped. A crash leaves a part of one log. The replies, cut where they rest on more than is durable, are allowed over each such part, none
-- on a durable entry is held back, and their text was taken so
pub record BreaksOff {D : Type 0} (run : Run D) (tasks : List Task) (ended : D) (IsTaken : List ℕ → Type 0) : Type 0 where
  pub course : Course
  pub durable : ℕ
  pub of : Sessions tasks
  pub keeps : KeepsLog run tasks course ended
  pub left : LeavesPart run course durable ended
  pub broken : BrokenOff course.terms of.loads course.old course.log durable of.sessions
  pub taken : IsTaken (text_of_all (map (cut_at durable course.terms.first) of.sessions))
