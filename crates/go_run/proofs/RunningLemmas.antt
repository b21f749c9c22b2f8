-- The steps of running the tasks of sessions over a disk.
use Rattle.std.proofs.Common.{◌≡◌, ℕ, ◌*◌, ◌-◌, ◌<◌, ◌≤◌, ◌^◌, true, List, length, take, map}
use Rattle.std.proofs.Common.{sum, Option, Some, None, Result, Err, refl, ap, arith, sym, subst, ◌∙◌}
use Rattle.std.proofs.Common.{take_all}
use Rattle.std.specs.Prelude.{IfSome, is_some}
use Rattle.go_word.specs.declared.edge.Edge.{Edge}
use Rattle.go_api.specs.declared.limits.TheConstants.{LOG_ENTRIES}
use Rattle.go_api.specs.declared.setup.Setup.{Setup}
use Rattle.go_api.specs.declared.stop.Stop.{Stop}
use Rattle.go_api.specs.declared.stop.Stop.TheVariants as stops
use Rattle.go_blocks.specs.File.{File, places_of}
use Rattle.go_blocks.specs.declared.layout.TheConstants.{FIRST_GATE}
use Rattle.go_blocks.proofs.Steps.{IsReadOf-fits}
use Rattle.go_disk.specs.Device.{Device, IsDevice}
use Rattle.go_durable.specs.Appending.{HasImage}
use Rattle.go_durable.specs.Attaching.{IsAnswerOf, OpensOver, LeavesUntouched, disk_of}
use Rattle.go_durable.specs.LogState.{OpenedLog}
use Rattle.go_durable.specs.Moments.{LeavesOnly}
use Rattle.go_durable.specs.Recovery.{Recovers, RecoversPart}
use Rattle.go_durable.specs.declared.fault.OpenFault.{OpenFault}
use Rattle.go_durable.specs.declared.fault.OpenFault.TheVariants as faults
use Rattle.go_durable.specs.declared.finished.Finished.{Finished}
use Rattle.go_durable.proofs.Moments.{goes_on, settles_weaker}
use Rattle.go_io.specs.Sink.{SinkState}
use Rattle.go_plain.specs.Plain.{Origin, PlainState, HasEnded, made_of}
use Rattle.go_session.specs.Drives.{BrokenOff}
use Rattle.go_session.specs.Session.{SessionState}
use Rattle.go_run.specs.Course.{Course, IsLogFor, HasTerms}
use Rattle.go_run.specs.Driving.{CanDrive, HasDriven, Concludes, refusal_of, CountFits, quota_in, tasks_in, terms_of}
use Rattle.go_run.specs.Input.{Task, count_of}
use Rattle.go_run.specs.Ran.{IsRefusedBy, RanTasks}
use Rattle.go_run.specs.Reading.{IsReady}
use Rattle.go_run.specs.Run.{Run}
use Rattle.go_run.specs.declared.status.Status.{Status}
use Rattle.go_run.specs.declared.status.Status.TheVariants.{Memory}
use Rattle.go_run.proofs.DrivenLemmas.{halted_breaks, can_halt_all}
use Rattle.go_run.proofs.OpenedLemmas.{HasOpened, had_log, told_on, is_told, old_part, made_can_drive, opened_left}
use Rattle.go_run.proofs.OutcomeLemmas.{IsLeftWhole, HaveRun, IsRun, ran_short, ran_refused, ran_concluded}
use Rattle.go_run.proofs.SessionsLemmas.{are_kept, quotas_count, sum_quotas}

-- how many entries sessions that are ready may put
pub ready_count : (v : ℕ) (loads : List (List Edge)) (sessions : List SessionState) → IsReady v (tasks_in loads sessions) loads sessions →
    sum (map (quota_in loads) sessions) ≡ count_of (tasks_in loads sessions)
ready_count v loads sessions ready = sum_quotas loads sessions ∙ quotas_count loads sessions ready.new

-- a file has no more entries than fit into it
file_fits : (v : ℕ) (log : List Edge) (bytes : List ℕ) → File v log bytes → 8 * length log ≤ length bytes
file_fits v log bytes is =
    let blocks = is.is_front.blocks in
    IsReadOf-fits bytes (record { vertices = v; edges = log; blocks = places_of FIRST_GATE blocks; gate = length is.front }) (record {
      blocks = blocks;
      front = is.front;
      has_blocks = is.is_front.has_blocks;
      closed = is.closed;
      edges = is.is_front.entries;
      places = refl;
      gate = refl;
    })

-- so that a refusal's count is a number
pub fits : {D : Type 0} (v puts : ℕ) (contents : Option (List ℕ)) (fault : OpenFault D) → puts ≤ LOG_ENTRIES →
    (let answer : Result (OpenedLog D) (OpenFault D) = Err fault in IsAnswerOf v (LOG_ENTRIES - puts) contents answer) → CountFits puts fault
fits v puts contents (faults.Bad bad disk) few answer = tt
fits v puts contents (faults.Vertices file disk) few answer = tt
fits v puts contents (faults.TooLong len disk) few answer = tt
fits v puts contents (faults.TooMany count disk) few answer =
    let many = answer.answer in
    omega (arith, few, many.so_many, many.fits, file_fits v many.log answer.bytes many.is_file)
fits v puts contents (faults.Disk disk) few answer = tt
fits v puts contents (faults.Memory disk) few answer = tt

-- what is told at entry is told of the store's end, where it is told at the opening
abbrev IsToldOn : {D : Type 0} → Run D → D → Type 1
IsToldOn run opened = (P : Type 0) → IfSome (run.device.contents opened) (λ bytes. P) → IfSome (run.device.contents run.begun) (λ bytes. P)

-- what is left at the store's end, over the vertices that were asked for
left_whole : {D : Type 0} (run : Run D) (store : PlainState D) (disk : D) (durable : ℕ) (stop : Option Stop) → store.origin.vertices ≡ run.vertices →
    IsToldOn run store.origin.disk → HasEnded run.device store (record { disk = disk; durable = durable; stop = stop }) → IsLeftWhole run store.log disk stop
left_whole run store disk durable None same told ended =
    let whole = ended.ends in
    let Left : ℕ → Type 0 = λ n. HasImage (run.device.images disk) (File n store.log) in
    record {
      only = whole.only;
      each = λ image is. subst (λ (n : ℕ). File n store.log image) same (whole.each image is);
      one = told (Left run.vertices) (subst (λ (n : ℕ). IfSome (run.device.contents store.origin.disk) (λ bytes. Left n)) same whole.one);
    }
left_whole run store disk durable (Some why) same told ended = tt

-- a log was opened for sessions that are ready, over which a store of these numbers is made
pub record IsOpenedOver {D : Type 0} (run : Run D) (loads : List (List Edge)) (sessions : List SessionState) (found : OpenedLog D) (setup : Setup)
    : Type 0 where
  pub puts : ℕ
  pub so_many : puts ≡ count_of (tasks_in loads sessions)
  pub few : puts ≤ LOG_ENTRIES
  pub same_ring : setup.ring ≡ run.ring
  pub opened : HasOpened run puts found
  pub ready : IsReady run.vertices (tasks_in loads sessions) loads sessions

module _ {D : Type 0} (run : Run D) (loads : List (List Edge)) (sessions : List SessionState) where
  abbrev tasks : List Task
  tasks = tasks_in loads sessions

  module _ (puts : ℕ) (so_many : puts ≡ count_of tasks) where
    -- a run whose log wasn't opened
    pub refused_ran : (ended : D) (fault : OpenFault D) (status : Status) →
        (let answer : Result (OpenedLog D) (OpenFault D) = Err fault in IsAnswerOf run.vertices (LOG_ENTRIES - puts) (run.device.contents run.begun) answer) →
        (let answer : Result (OpenedLog D) (OpenFault D) = Err fault in OpensOver run.device run.vertices run.begun answer) →
        (let answer : Result (OpenedLog D) (OpenFault D) = Err fault in LeavesUntouched run.device run.begun answer) →
        status ≡ refusal_of run.vertices puts fault → ended ≡ disk_of fault → RanTasks run tasks run.sink ended status
    refused_ran ended fault status answer moments untouched told back =
        let result : Result (OpenedLog D) (OpenFault D) = Err fault in
        let refused : IsRefusedBy run tasks fault = record {
          answer = subst (λ (n : ℕ). IsAnswerOf run.vertices (LOG_ENTRIES - n) (run.device.contents run.begun) result) so_many answer;
          moments = moments;
          untouched = untouched;
        } in
        let at_status = subst (λ (s : Status). RanTasks run tasks run.sink (disk_of fault) s)
        (sym (told ∙ ap (λ (n : ℕ). refusal_of run.vertices n fault) so_many)) (ran_refused run tasks fault refused) in
        subst (λ (d : D). RanTasks run tasks run.sink d status) (sym back) at_status

  module _ (found : OpenedLog D) (setup : Setup) (over : IsOpenedOver run loads sessions found setup) where
    abbrev fresh : PlainState D
    fresh = made_of found setup (map (quota_in loads) sessions)

    short : length found.edges < 2 ^ 32
    short = omega (arith, over.opened.answer.answer.few)

    -- sessions that are ready can be driven over the store that was made
    pub drive_can : (store : PlainState D) → store ≡ fresh → CanDrive run.device loads sessions store
    drive_can store made =
        let found_ready = subst (λ (n : ℕ). IsReady n tasks loads sessions) (sym over.opened.log.vertices_are) over.ready in
        subst (λ (s : PlainState D). CanDrive run.device loads sessions s) (sym made)
        (made_can_drive run.device loads sessions found setup found_ready over.opened.log.opened.stands.so_many over.opened.log.opened.within short)

    -- what is told of the terms
    has_terms : (store : PlainState D) (log : List Edge) → store.origin ≡ fresh.origin → store.room ≡ fresh.room →
        HasTerms run (record { old = found.edges; log = log; terms = terms_of run.device store })
    has_terms store log origin room = record {
      first = ap (λ (o : Origin D). o.first) origin;
      vertices = ap (λ (o : Origin D). o.vertices) origin ∙ over.opened.log.vertices_are;
      ring = room ∙ over.same_ring;
      told = told_on (is_some (run.device.contents store.origin.disk) ≡ true) (run.device.contents run.begun) (run.device.contents found.log.disk)
          over.opened.log.told
          (subst (λ (d : D). IfSome (run.device.contents found.log.disk) (λ bytes. is_some (run.device.contents d) ≡ true))
          (sym (ap (λ (o : Origin D). o.disk) origin)) (is_told (run.device.contents found.log.disk)));
    }

    -- what was at entry
    had : IfSome (run.device.contents run.begun) (IsLogFor run.vertices tasks found.edges)
    had =
        let answer = over.opened.answer in
        had_log run.vertices over.puts tasks (run.device.contents run.begun) found.edges answer.bytes answer.shown answer.answer over.so_many over.few

    -- sessions that were driven over an opened log
    run_of : (news : List SessionState) (stop : Option Stop) (finished : Finished D) → HasDriven run.device loads sessions fresh news stop finished →
        IsRun run tasks news finished.durable finished.disk stop finished.stop
    run_of news stop finished driven =
        let device = run.device in
        let v = run.vertices in
        let store = driven.store in
        let log = store.log in
        let ended = driven.ended in
        let onward = driven.onward in
        let old = found.edges in
        let first : store.origin.first ≡ length old = ap (λ (o : Origin D). o.first) onward.origin in
        let vertices : store.origin.vertices ≡ v = ap (λ (o : Origin D). o.vertices) onward.origin ∙ over.opened.log.vertices_are in
        let disk : store.origin.disk ≡ found.log.disk = ap (λ (o : Origin D). o.disk) onward.origin in
        let told : IsToldOn run store.origin.disk = λ P has.
        told_on P (device.contents run.begun) (device.contents found.log.disk) over.opened.log.told
        (subst (λ (d : D). IfSome (device.contents d) (λ bytes. P)) disk has) in
        let Just : ℕ → Type 0 = λ n. HasImage (device.images finished.disk) (Recovers n (take finished.durable log)) in
        let one = subst (λ (n : ℕ). IfSome (device.contents store.origin.disk) (λ bytes. Just n)) vertices ended.one in
        let later = subst (λ (n : ℕ). LeavesOnly device store.origin.disk finished.disk (RecoversPart n store.origin.first log)) vertices ended.moments in
        let later_from = subst (λ (n : ℕ). LeavesOnly device store.origin.disk finished.disk (RecoversPart v n log)) first later in
        let later_on = subst (λ (d : D). LeavesOnly device d finished.disk (RecoversPart v (length old) log)) disk later_from in
        record {
          course = record { old = old; log = log; terms = terms_of device store };
          have = record {
            loads = loads;
            sessions = news;
            are = are_kept 1 loads tasks sessions news over.ready.are onward.aims;
            told = driven.told;
            keeps = record {
              had = had;
              terms = has_terms store log onward.origin onward.room;
              moments = goes_on device run.begun found.log.disk finished.disk (Recovers v old) (RecoversPart v (length old) log)
                  (RecoversPart v (length old) log)
                  (λ image is. old_part v old log image onward.begins onward.longer is) (λ image is. is) over.opened.recovers later_on;
            };
            left = record {
              least = omega (arith, over.opened.log.opened.stands.so_many, onward.no_less, ended.no_less);
              most = ended.most;
              each = λ image is. subst (λ (n : ℕ). RecoversPart n finished.durable log image) vertices (ended.each image is);
              one = told (Just v) one;
            };
            broken = driven.broken;
          };
          these = refl;
          drives = driven.drives;
          whole = left_whole run store finished.disk finished.durable finished.stop vertices told ended;
        }

    -- a run whose sessions came as far as they could
    pub drive_ran : (news : List SessionState) (sink : SinkState) (stop : Option Stop) (finished : Finished D) (status : Status) (store : PlainState D) →
        store ≡ fresh → HasDriven run.device loads sessions store news stop finished →
        Concludes stop finished.stop news finished.durable run.sink sink status → RanTasks run tasks sink finished.disk status
    drive_ran news sink stop finished status store made driven concludes =
        let from_made = subst (λ (p : PlainState D). HasDriven run.device loads sessions p news stop finished) made driven in
        ran_concluded run tasks news finished.disk finished.durable sink status stop finished.stop (run_of news stop finished from_made) concludes

    -- one for which no store could be made
    pub unmade_ran : (rules : IsDevice run.device) (ended : D) → ended ≡ found.log.disk → RanTasks run tasks run.sink ended Memory
    unmade_ran rules ended back =
        let old = found.edges in
        let v = run.vertices in
        let n = length old in
        let whole : take n old ≡ old = take_all n old (omega arith) in
        let halted = can_halt_all run.device loads sessions fresh (drive_can fresh refl).can in
        let both = halted_breaks run.device loads sessions fresh n halted (omega arith) (omega arith) in
        let course : Course = record { old = old; log = old; terms = terms_of run.device fresh } in
        let have : HaveRun run tasks course n found.log.disk = record {
          loads = loads;
          sessions = sessions;
          are = over.ready.are;
          told = both.1;
          keeps = record {
            had = had;
            terms = has_terms fresh old refl refl;
            moments = settles_weaker run.device run.begun found.log.disk (Recovers v old) (RecoversPart v n old)
                (λ image is. old_part v old old image whole (omega arith) is) over.opened.recovers;
          };
          left = opened_left run rules found course refl refl over.opened.log;
          broken = subst (λ (l : List Edge). BrokenOff (terms_of run.device fresh) loads l old n sessions) whole both.0;
        } in
        subst (λ (d : D). RanTasks run tasks run.sink d Memory) (sym back) (ran_short run tasks course n found.log.disk run.sink Memory have (refl, refl))
