-- Why a run ended as it did.
use Rattle.std.proofs.Common.{◌≡◌, ℕ, ◌≤◌, List, Option, Some, None, Ok, Err, refl, sym, subst, arith}
use Rattle.go_text.specs.Causes.{Rose}
use Rattle.go_word.specs.declared.edge.Edge.{Edge}
use Rattle.go_io.specs.Sink.{SinkState}
use Rattle.go_session.specs.Session.{SessionState}
use Rattle.go_run.specs.Causes.{IsRight, IsDoneOrMemory, NoneFell, TellsRisen, Causes}
use Rattle.go_run.specs.Driving.{tasks_in}
use Rattle.go_run.specs.Work.{Work}
use Rattle.go_run.specs.Ran.{RanTasks, Ran}
use Rattle.go_run.specs.Reading.{ReadsWork}
use Rattle.go_run.specs.Run.{Run, ShelfState}
use Rattle.go_run.specs.declared.status.Status.{Status}
use Rattle.go_run.specs.declared.status.Status.TheVariants.{Words, ReadFault, DiskFault, WriteFault}
use Rattle.go_run.proofs.CompleteLemmas.{done_or_memory}
use Rattle.go_run.proofs.RunLemmas.{ran_tasks, ran_refusal, ran_words, no_read_fault, no_disk_fault, no_write_fault}

-- the causes of a run that is one of these, where each fault is told only where it came
causes_of : {D : Type 0} (run : Run D) (asked : Option Work) (shelf now : ShelfState) (sink : SinkState) (ended : D) (status : Status) →
    Ran run asked shelf.texts sink ended status → TellsRisen run shelf now sink ended status → now.texts ≡ shelf.texts → NoneFell run shelf now sink ended →
    run.device.blunders ended ≡ run.device.blunders run.begun → Causes run asked shelf now sink ended status
causes_of run asked shelf now sink ended status ran tells same fell blunders = record {
  tells = tells;
  complete = λ right none.
      done_or_memory run asked shelf.texts sink ended status ran (λ name is. none.shelf_same name (tells.read_fault name is))
      (λ is. none.disk_same (tells.disk_fault is))
      (λ is. none.sink_same (tells.write_fault is)) right;
  same_texts = same;
  none_fell = fell;
  no_blunder = blunders;
}

-- words that ask for nothing
pub no_words : {D : Type 0} (run : Run D) (shelf : ShelfState) → Causes run None shelf shelf run.sink run.begun Words
no_words run shelf =
    causes_of run None shelf shelf run.sink run.begun Words (ran_words run shelf.texts)
    (record {
      read_fault = λ name is. absurd (let h : Words ≡ ReadFault name = is in cc);
      write_fault = λ is. absurd (let h : Words ≡ WriteFault = is in cc);
      disk_fault = λ is. absurd (let h : Words ≡ DiskFault = is in cc);
    }) refl (record { shelf_later = λ name. omega arith; sink_later = omega arith; disk_later = omega arith }) refl

-- tasks that were run
pub task_causes : {D : Type 0} (run : Run D) (work : Work) (loads : List (List Edge)) (sessions : List SessionState) (shelf now : ShelfState) (sink : SinkState)
    (ended : D) (status : Status) → ReadsWork run.vertices shelf.texts work loads (Ok sessions) → RanTasks run (tasks_in loads sessions) sink ended status →
    now.texts ≡ shelf.texts → NoneFell run shelf now sink ended →
    (status ≡ WriteFault → Rose run.sink.faults sink.faults) × (status ≡ DiskFault → Rose (run.device.faults run.begun) (run.device.faults ended)) →
    run.device.blunders ended ≡ run.device.blunders run.begun → Causes run (Some work) shelf now sink ended status
task_causes run work loads sessions shelf now sink ended status reads ran same fell told blunders =
    causes_of run (Some work) shelf now sink ended status (ran_tasks run work shelf.texts loads sessions sink ended status reads ran)
    (record {
      read_fault = λ other is. absurd (no_read_fault run (tasks_in loads sessions) sink ended status other ran is);
      write_fault = told.0;
      disk_fault = told.1;
    }) same fell blunders

-- a reading that was refused
pub refusal_causes : {D : Type 0} (run : Run D) (work : Work) (loads : List (List Edge)) (shelf now : ShelfState) (status : Status) →
    ReadsWork run.vertices shelf.texts work loads (Err status) → now.texts ≡ shelf.texts → ((other : List ℕ) → shelf.faults other ≤ now.faults other) →
    ((name : List ℕ) → status ≡ ReadFault name → Rose (shelf.faults name) (now.faults name)) →
    Causes run (Some work) shelf now run.sink run.begun status
refusal_causes run work loads shelf now status reads same later fault =
    causes_of run (Some work) shelf now run.sink run.begun status (ran_refusal run work shelf.texts loads status reads)
    (record {
      read_fault = fault;
      write_fault = λ is. absurd (no_write_fault run.vertices work reads.read loads status reads.reads is);
      disk_fault = λ is. absurd (no_disk_fault run.vertices work reads.read loads status reads.reads is);
    }) same (record { shelf_later = later; sink_later = omega arith; disk_later = omega arith }) refl
