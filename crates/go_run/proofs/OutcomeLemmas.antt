-- How a run ends, by what stopped it.
use Rattle.std.proofs.Common.{◌≡◌, ℕ, List, map, Option, Some, None, Result, Err, refl, ap, sym, subst, ◌∙◌, inl, inr}
use Rattle.std.specs.Prelude.{All}
use Rattle.go_word.specs.declared.edge.Edge.{Edge}
use Rattle.go_api.specs.declared.stop.Stop.{Stop}
use Rattle.go_api.specs.declared.stop.Stop.TheVariants as stops
use Rattle.go_durable.specs.Attaching.{disk_of}
use Rattle.go_durable.specs.declared.fault.OpenFault.{OpenFault}
use Rattle.go_durable.specs.declared.fault.OpenFault.TheVariants as faults
use Rattle.go_io.specs.Sink.{SinkState, Takes, TakesPrefix}
use Rattle.go_session.specs.Drives.{Drives, BrokenOff}
use Rattle.go_session.specs.Session.{SessionState}
use Rattle.go_run.specs.Course.{Course, AreOf, KeepsLog, LeavesFile, LeavesPart, Completes, BreaksOff}
use Rattle.go_run.specs.Driving.{IsTold, text_shown, PrintsCut, Concludes, refusal_of}
use Rattle.go_run.specs.Input.{Task, count_of}
use Rattle.go_run.specs.Ran.{IsRefusedBy, TakesSome, Untaken, RanTasks}
use Rattle.go_run.specs.Run.{Run}
use Rattle.go_run.specs.declared.status.Status.{Status}
use Rattle.go_run.specs.declared.status.Status.TheVariants.{Done, TooMuch, NotALog, OtherVertices, DiskFault, WriteFault, Memory}
use Rattle.go_run.proofs.SessionsLemmas.{text_cut}

-- where nothing stopped the store's end, a crash leaves a file of the log and nothing else
abbrev pub IsLeftWhole : {D : Type 0} → Run D → List Edge → D → Option Stop → Type 0
IsLeftWhole run log disk None = LeavesFile run log disk
IsLeftWhole run log disk (Some why) = Unit {0}

-- what sessions of tasks came to over the log of a disk
pub record HaveRun {D : Type 0} (run : Run D) (tasks : List Task) (course : Course) (durable : ℕ) (disk : D) : Type 0 where
  pub loads : List (List Edge)
  pub sessions : List SessionState
  pub are : AreOf 1 loads tasks sessions
  pub told : All (IsTold course.terms.first) sessions
  pub keeps : KeepsLog run tasks course disk
  pub left : LeavesPart run course durable disk
  pub broken : BrokenOff course.terms loads course.old course.log durable sessions

-- besides, by what stopped one of them, and what stopped the store's end
pub record IsRun {D : Type 0} (run : Run D) (tasks : List Task) (sessions : List SessionState) (durable : ℕ) (disk : D) (stop last : Option Stop) : Type 0 where
  pub course : Course
  pub have : HaveRun run tasks course durable disk
  pub these : have.sessions ≡ sessions
  pub drives : Drives course.terms have.loads course.old course.log durable have.sessions stop
  pub whole : IsLeftWhole run course.log disk last

module _ {D : Type 0} (run : Run D) (tasks : List Task) where
  -- sessions that broke off, by what was then written
  pub breaks : (course : Course) (durable : ℕ) (disk : D) (IsTaken : List ℕ → Type 0) (have : HaveRun run tasks course durable disk) →
      IsTaken (text_shown have.sessions (Some durable)) → BreaksOff run tasks disk IsTaken
  breaks course durable disk IsTaken have taken = record {
    course = course;
    durable = durable;
    of = record { loads = have.loads; sessions = have.sessions; are = have.are };
    keeps = have.keeps;
    left = have.left;
    broken = have.broken;
    taken = subst IsTaken (text_cut durable course.terms.first have.sessions have.told) taken;
  }

  -- a run that ended for want of memory
  pub ran_short : (course : Course) (durable : ℕ) (disk : D) (sink : SinkState) (status : Status) → HaveRun run tasks course durable disk →
      (status ≡ Memory) × (sink ≡ run.sink) → RanTasks run tasks sink disk status
  ran_short course durable disk sink status have ends =
      subst (λ (s : Status). RanTasks run tasks sink disk s) (sym ends.0) (inr (inr (breaks course durable disk Untaken have tt)), ends.1)

  module _ (sessions : List SessionState) (disk : D) (durable : ℕ) (sink : SinkState) (status : Status) where
    -- one that nothing stopped
    completes : (IsTaken : List ℕ → Type 0) → IsRun run tasks sessions durable disk None None → IsTaken (text_shown sessions None) →
        Completes run tasks disk IsTaken
    completes IsTaken is taken = record {
      course = is.course;
      of = record { loads = is.have.loads; sessions = is.have.sessions; are = is.have.are };
      keeps = is.have.keeps;
      complete = is.drives;
      left = is.whole;
      taken = subst (λ (l : List SessionState). IsTaken (text_shown l None)) (sym is.these) taken;
    }

    -- one whose disk failed, by what was then written
    ran_cut : (s : Status) (stop : Option Stop) → IsRun run tasks sessions durable disk stop (Some stops.Disk) → PrintsCut sessions durable run.sink sink s →
        RanTasks run tasks sink disk s
    ran_cut DiskFault stop is prints =
        inr (breaks is.course durable disk (TakesSome run.sink sink) is.have
        (subst (λ (l : List SessionState). TakesSome run.sink sink (text_shown l (Some durable))) (sym is.these) prints))
    ran_cut Memory stop is prints = ran_short is.course durable disk sink Memory is.have (refl, prints)
    ran_cut _ stop is prints = absurd prints

    -- one that nothing stopped, by what was then written
    ran_all : (s : Status) → IsRun run tasks sessions durable disk None None → Concludes None None sessions durable run.sink sink s →
        RanTasks run tasks sink disk s
    ran_all Done is ends = completes (Takes run.sink sink) is ends
    ran_all WriteFault is ends = completes (TakesPrefix run.sink sink) is ends
    ran_all Memory is ends = ran_short is.course durable disk sink Memory is.have (refl, ends)
    ran_all _ is ends = absurd ends

    -- a run whose sessions came as far as they could, by what was then written
    pub ran_concluded : (stop last : Option Stop) → IsRun run tasks sessions durable disk stop last →
        Concludes stop last sessions durable run.sink sink status → RanTasks run tasks sink disk status
    ran_concluded None None is ends = ran_all status is ends
    ran_concluded (Some why) None is ends = ran_short is.course durable disk sink status is.have ends
    ran_concluded None (Some stops.Disk) is ends = ran_cut status None is ends
    ran_concluded (Some why) (Some stops.Disk) is ends = ran_cut status (Some why) is ends
    ran_concluded None (Some stops.Memory) is ends = ran_short is.course durable disk sink status is.have ends
    ran_concluded (Some why) (Some stops.Memory) is ends = ran_short is.course durable disk sink status is.have ends

  -- a run whose log wasn't opened
  pub ran_refused : (fault : OpenFault D) → IsRefusedBy run tasks fault →
      RanTasks run tasks run.sink (disk_of fault) (refusal_of run.vertices (count_of tasks) fault)
  ran_refused (faults.Bad bad disk) refused = (refused, refl)
  ran_refused (faults.Vertices file disk) refused = (refused, refl, refl)
  ran_refused (faults.TooLong len disk) refused = (inl (refused, refl), refl)
  ran_refused (faults.TooMany count disk) refused = (inr (count, refused, refl, refl), refl)
  ran_refused (faults.Disk disk) refused = inl (refused, refl)
  ran_refused (faults.Memory disk) refused = (inr (inl refused), refl)
