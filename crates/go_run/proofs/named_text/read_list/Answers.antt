-- A text that was fetched, read as a file of edges.
use Rattle.std.proofs.Common.{ℕ, List, sym, subst}
use Rattle.go_loader.specs.EdgeFile.{items_of, reader_of}
use Rattle.go_loader.specs.Reading.{entries_from}
use Rattle.go_run.specs.NamedText.{IsOrNoMemory, entries_in}
use Rattle.go_run.proofs.NamedTextLemmas.{text_read, text_refused, may_be_entries, no_fault_of_entries}
use Rattle.go_run.proofs.named_text.read_list.Goals as goal

pub returns-in-Ok-clause-read : goal.returns-in-Ok-clause-read
returns-in-Ok-clause-read g c =
    let v = c.args.vertices in
    let name = c.args.name.now in
    let text = c.fetch_text.new.text.items in
    let read = subst (λ (bytes : List ℕ). IsOrNoMemory (entries_in v name bytes) c.list_in.result) c.deref.ensures.value c.list_in.ensures.read in
    text_read (g.H.Shelf.texts c.args.shelf.now) name text (entries_in v name) c.list_in.result c.in-Ok.ensures.read
    (may_be_entries name (entries_from (reader_of v text) 1 (items_of text))) read

pub returns-in-Ok-clause-fault : goal.returns-in-Ok-clause-fault
returns-in-Ok-clause-fault g c =
    let text = c.deref.result.now in
    no_fault_of_entries _ c.args.name.now (entries_from (reader_of c.args.vertices text) 1 (items_of text)) c.list_in.result c.list_in.ensures.read

pub returns-clause-read : goal.returns-clause-read
returns-clause-read g c =
    text_refused (g.H.Shelf.texts c.args.shelf.now) c.args.name.now (entries_in c.args.vertices c.args.name.now) c.in-Err.status c.in-Err.ensures.read
