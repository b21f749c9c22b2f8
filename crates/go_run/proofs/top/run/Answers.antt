-- What a run leads to, over what its words ask for.
use Rattle.std.proofs.Common.{◌≡◌, ◌∙◌, ◌≤◌, ℕ, List, [], length, Some, None, refl, sym, subst, ap, arith}
use Rattle.go_run.specs.Causes.{Causes}
use Rattle.go_run.specs.Found.{asked_for, work_for}
use Rattle.go_run.specs.Ran.{Ran}
use Rattle.go_run.specs.Run.{run_over, shelf_with}
use Rattle.go_run.specs.Words.{setup_asked}
use Rattle.go_run.specs.Work.{Work}
use Rattle.go_run.specs.Work.Work.{driving, generating}
use Rattle.go_run.specs.declared.status.Status.TheVariants.{Memory, ReadFault}
use Rattle.go_run.proofs.AskedLemmas.{some_scripts, few_edges}
use Rattle.go_run.proofs.CauseLemmas.{no_words, refusal_causes}
use Rattle.go_run.proofs.RunLemmas.{ran_words, ran_refusal}
use Rattle.go_run.proofs.WorkLemmas.{no_memory}
use Rattle.go_run.proofs.top.run.Goals as goal

pub run_with-requires-clause-some_script : goal.run_with-requires-clause-some_script
run_with-requires-clause-some_script g c lifetimes outlives =
    let some = some_scripts c.args.words.now c.in-Drive.names (asked_for c.in-Some.wanted) c.in-Some.ensures.asked.asks (ap work_for c.in-Drive.is) in
    subst (λ (l : List (List ℕ)). 1 ≤ length l) (sym (c.deref.ensures.value ∙ c.in-Ok.ensures)) some.0

pub run_with-requires-clause-few_scripts : goal.run_with-requires-clause-few_scripts
run_with-requires-clause-few_scripts g c lifetimes outlives =
    let some = some_scripts c.args.words.now c.in-Drive.names (asked_for c.in-Some.wanted) c.in-Some.ensures.asked.asks (ap work_for c.in-Drive.is) in
    subst (λ (l : List (List ℕ)). length l ≤ 8) (sym (c.deref.ensures.value ∙ c.in-Ok.ensures)) some.1

pub run_generated-requires-clause-few : goal.run_generated-requires-clause-few
run_generated-requires-clause-few g c =
    few_edges c.args.words.now c.in-Generate.edges c.in-Generate.seed (asked_for c.in-Some.wanted) c.in-Some.ensures.asked.asks (ap work_for c.in-Generate.is)

pub returns-in_default-clause-ran : goal.returns-in_default-clause-ran
returns-in_default-clause-ran g c = record {
  asked = None;
  is_asked = c.in_default.ensures.asked;
  holds = ran_words (run_over g.D.Disk.device (setup_asked None) c.args.disk (g.K.Sink.stands c.args.sink.now)) (g.H.Shelf.texts c.args.shelf.now);
}

pub returns-in_default-clause-causes : goal.returns-in_default-clause-causes
returns-in_default-clause-causes g c = record {
  asked = None;
  is_asked = c.in_default.ensures.asked;
  holds = no_words (run_over g.D.Disk.device (setup_asked None) c.args.disk (g.K.Sink.stands c.args.sink.now))
      (shelf_with (g.H.Shelf.texts c.args.shelf.now) (g.H.Shelf.faults c.args.shelf.now));
}

pub returns-in-Err-clause-ran : goal.returns-in-Err-clause-ran
returns-in-Err-clause-ran g c =
    let run = run_over g.D.Disk.device c.in-Some.wanted.setup c.args.disk (g.K.Sink.stands c.args.sink.now) in
    let texts = g.H.Shelf.texts c.args.shelf.now in
    record {
      asked = Some (asked_for c.in-Some.wanted);
      is_asked = c.in-Some.ensures.asked;
      holds = subst (λ (w : Work). Ran run (Some w) texts run.sink run.begun Memory) (sym (ap work_for c.in-Drive.is))
          (ran_refusal run (driving c.in-Drive.names) texts [] Memory (no_memory run.vertices texts c.in-Drive.names []));
    }

pub returns-in-Err-clause-causes : goal.returns-in-Err-clause-causes
returns-in-Err-clause-causes g c =
    let run = run_over g.D.Disk.device c.in-Some.wanted.setup c.args.disk (g.K.Sink.stands c.args.sink.now) in
    let shelf = shelf_with (g.H.Shelf.texts c.args.shelf.now) (g.H.Shelf.faults c.args.shelf.now) in
    record {
      asked = Some (asked_for c.in-Some.wanted);
      is_asked = c.in-Some.ensures.asked;
      holds = subst (λ (w : Work). Causes run (Some w) shelf shelf run.sink run.begun Memory) (sym (ap work_for c.in-Drive.is))
          (refusal_causes run (driving c.in-Drive.names) [] shelf shelf Memory (no_memory run.vertices shelf.texts c.in-Drive.names []) refl
          (λ name. omega arith)
          (λ name is. absurd (let h : Memory ≡ ReadFault name = is in cc)));
    }

pub returns-in-Ok-clause-ran : goal.returns-in-Ok-clause-ran
returns-in-Ok-clause-ran g c = record {
  asked = Some (asked_for c.in-Some.wanted);
  is_asked = c.in-Some.ensures.asked;
  holds = subst (λ (w : Work).
      Ran (run_over g.D.Disk.device c.in-Some.wanted.setup c.args.disk (g.K.Sink.stands c.args.sink.now)) (Some w) (g.H.Shelf.texts c.args.shelf.now)
      (g.K.Sink.stands c.run_with.new.sink) c.run_with.result.disk c.run_with.result.status)
      (ap driving (c.deref.ensures.value ∙ c.in-Ok.ensures) ∙ sym (ap work_for c.in-Drive.is)) c.run_with.ensures.ran;
}

pub returns-in-Ok-clause-causes : goal.returns-in-Ok-clause-causes
returns-in-Ok-clause-causes g c = record {
  asked = Some (asked_for c.in-Some.wanted);
  is_asked = c.in-Some.ensures.asked;
  holds = subst (λ (w : Work).
      Causes (run_over g.D.Disk.device c.in-Some.wanted.setup c.args.disk (g.K.Sink.stands c.args.sink.now)) (Some w)
      (shelf_with (g.H.Shelf.texts c.args.shelf.now) (g.H.Shelf.faults c.args.shelf.now))
      (shelf_with (g.H.Shelf.texts c.run_with.new.shelf) (g.H.Shelf.faults c.run_with.new.shelf))
      (g.K.Sink.stands c.run_with.new.sink) c.run_with.result.disk c.run_with.result.status)
      (ap driving (c.deref.ensures.value ∙ c.in-Ok.ensures) ∙ sym (ap work_for c.in-Drive.is)) c.run_with.ensures.causes;
}

pub returns-in-Generate-clause-ran : goal.returns-in-Generate-clause-ran
returns-in-Generate-clause-ran g c = record {
  asked = Some (asked_for c.in-Some.wanted);
  is_asked = c.in-Some.ensures.asked;
  holds = subst (λ (w : Work).
      Ran (run_over g.D.Disk.device c.in-Some.wanted.setup c.args.disk (g.K.Sink.stands c.args.sink.now)) (Some w) (g.H.Shelf.texts c.args.shelf.now)
      (g.K.Sink.stands c.run_generated.new.sink) c.run_generated.result.disk c.run_generated.result.status)
      (sym (ap work_for c.in-Generate.is)) (c.run_generated.ensures.ran (g.H.Shelf.texts c.args.shelf.now));
}

pub returns-in-Generate-clause-causes : goal.returns-in-Generate-clause-causes
returns-in-Generate-clause-causes g c =
    let shelf = shelf_with (g.H.Shelf.texts c.args.shelf.now) (g.H.Shelf.faults c.args.shelf.now) in
    record {
      asked = Some (asked_for c.in-Some.wanted);
      is_asked = c.in-Some.ensures.asked;
      holds = subst (λ (w : Work).
          Causes (run_over g.D.Disk.device c.in-Some.wanted.setup c.args.disk (g.K.Sink.stands c.args.sink.now)) (Some w) shelf shelf
          (g.K.Sink.stands c.run_generated.new.sink) c.run_generated.result.disk c.run_generated.result.status)
          (sym (ap work_for c.in-Generate.is)) (c.run_generated.ensures.causes shelf);
    }
