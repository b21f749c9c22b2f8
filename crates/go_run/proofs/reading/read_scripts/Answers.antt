-- The scripts of a run.
use Rattle.std.proofs.Common.{◌≡◌, ℕ, List, Option, sym, subst, ◌∙◌, arith}
use Rattle.go_word.specs.declared.edge.Edge.{Edge}
use Rattle.go_script.specs.declared.step.Step.{Step}
use Rattle.go_session.specs.Asked.{lists_of}
use Rattle.go_run.specs.Judged.{IsWrong}
use Rattle.go_run.proofs.WorkLemmas.{files_refuse, lists_refuse, judged_wrong, no_memory, sessions_ready, names_count}
use Rattle.go_run.proofs.reading.read_scripts.Goals as goal

pub returns-in-Err-clause-read : goal.returns-in-Err-clause-read
returns-in-Err-clause-read g c =
    files_refuse c.args.vertices (g.H.Shelf.texts c.args.shelf.now) c.args.names.now c.args.loads.now.items c.in-Err.status c.in-Err.ensures.read

pub returns-in-Err-read_lists-clause-read : goal.returns-in-Err-read_lists-clause-read
returns-in-Err-read_lists-clause-read g c =
    let refuses = rw (c.deref.ensures.value, c.read_files.ensures.same) at c.in-Err-read_lists.ensures.read in
    lists_refuse c.args.vertices (g.H.Shelf.texts c.args.shelf.now) c.args.names.now c.in-Ok.scripts.items c.read_lists.new.loads.items
    c.in-Err-read_lists.status c.in-Ok.ensures.read refuses

pub judge-requires-clause-counted : goal.judge-requires-clause-counted
judge-requires-clause-counted g c =
    let has = rw (c.deref.ensures.value, c.read_files.ensures.same) at c.in-Ok-read_lists.ensures.read in
    rw (c.deref-4.ensures.value, c.deref-2.ensures.value) (has.count ∙ names_count c.in-Ok.scripts.items)

pub returns-in-Err-judge-clause-read : goal.returns-in-Err-judge-clause-read
returns-in-Err-judge-clause-read g c =
    let has = rw (c.deref.ensures.value, c.read_files.ensures.same) at c.in-Ok-read_lists.ensures.read in
    let names = c.args.names.now in
    let status = c.in-Err-judge.status in
    let of_scripts = subst (λ (s : List (List Step)). IsWrong names s (lists_of c.deref-3.result.now c.deref-4.result.now) status) c.deref-2.ensures.value
    c.in-Err-judge.ensures in
    let of_loads = subst (λ (l : List (List Edge)). IsWrong names c.in-Ok.scripts.items (lists_of l c.deref-4.result.now) status) c.deref-3.ensures.value
    of_scripts in
    let wrong = subst (λ (n : List ℕ). IsWrong names c.in-Ok.scripts.items (lists_of c.read_lists.new.loads.items n) status) c.deref-4.ensures.value of_loads in
    judged_wrong c.args.vertices (g.H.Shelf.texts c.args.shelf.now) c.args.names.now c.in-Ok.scripts.items c.read_lists.new.loads.items
    c.in-Ok-read_lists.numbers.items c.in-Err-judge.status c.in-Ok.ensures.read has wrong

pub start_sessions-requires-clause-counted : goal.start_sessions-requires-clause-counted
start_sessions-requires-clause-counted g c =
    let has = rw (c.deref.ensures.value, c.read_files.ensures.same) at c.in-Ok-read_lists.ensures.read in
    rw c.deref-5.ensures.value (has.count ∙ names_count c.in-Ok.scripts.items)

pub returns-in-Ok-start_sessions-clause-read : goal.returns-in-Ok-start_sessions-clause-read
returns-in-Ok-start_sessions-clause-read g c =
    let has = rw (c.deref.ensures.value, c.read_files.ensures.same) at c.in-Ok-read_lists.ensures.read in
    let right = rw (c.deref-2.ensures.value, c.deref-3.ensures.value, c.deref-4.ensures.value) at c.in_default.ensures in
    let sessions = rw c.deref-5.ensures.value at c.in-Ok-start_sessions.ensures.sessions in
    sessions_ready c.args.vertices (g.H.Shelf.texts c.args.shelf.now) c.args.names.now c.in-Ok.scripts.items c.read_lists.new.loads.items
    c.in-Ok-read_lists.numbers.items c.in-Ok-start_sessions.sessions.items c.in-Ok.ensures.read c.in-Ok.ensures.steps.0 has right sessions
    c.in-Ok-start_sessions.ensures.scripts (omega (arith, c.in-Ok.ensures.steps.1, c.requires.some)) (omega (arith, c.in-Ok.ensures.steps.1, c.requires.few))

pub returns-clause-read : goal.returns-clause-read
returns-clause-read g c = no_memory c.args.vertices (g.H.Shelf.texts c.args.shelf.now) c.args.names.now c.read_lists.new.loads.items
