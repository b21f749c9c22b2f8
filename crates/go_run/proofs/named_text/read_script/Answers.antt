-- A text that was fetched, read as a script.
use Rattle.std.proofs.Common.{ℕ, List, sym, subst}
use Rattle.go_script.specs.Grammar.{script_of}
use Rattle.go_run.specs.NamedText.{IsOrNoMemory, steps_in}
use Rattle.go_run.proofs.NamedTextLemmas.{text_read, text_refused, may_be_steps, no_fault_of_steps}
use Rattle.go_run.proofs.named_text.read_script.Goals as goal

pub returns-in-Ok-clause-read : goal.returns-in-Ok-clause-read
returns-in-Ok-clause-read g c =
    let v = c.args.vertices in
    let name = c.args.name.now in
    let text = c.fetch_text.new.text.items in
    let read = subst (λ (bytes : List ℕ). IsOrNoMemory (steps_in v name bytes) c.script_in.result) c.deref.ensures.value c.script_in.ensures.read in
    text_read (g.H.Shelf.texts c.args.shelf.now) name text (steps_in v name) c.script_in.result c.in-Ok.ensures.read (may_be_steps name (script_of v text)) read

pub returns-in-Ok-clause-fault : goal.returns-in-Ok-clause-fault
returns-in-Ok-clause-fault g c =
    no_fault_of_steps _ c.args.name.now (script_of c.args.vertices c.deref.result.now) c.script_in.result c.script_in.ensures.read

pub returns-clause-read : goal.returns-clause-read
returns-clause-read g c =
    text_refused (g.H.Shelf.texts c.args.shelf.now) c.args.name.now (steps_in c.args.vertices c.args.name.now) c.in-Err.status c.in-Err.ensures.read
