-- The text is that of the name's entry.
use Rattle.std.proofs.Common.{Some, ◌∙◌, ap}
use Rattle.std.specs.Option.{option_map}
use Rattle.go_io.proofs.EntryLemmas.{text_in-entries}
use Rattle.go_io.proofs.mem_shelf.text_under.Goals as goal

pub returns-in-Some : goal.returns-in-Some
returns-in-Some c =
    ap Some c.as_slice.ensures.value
    ∙ (ap (option_map (λ entry. entry.bytes.items)) c.in-Some.ensures ∙ text_in-entries c.args.entries.now c.args.name.now)

pub returns-in-None : goal.returns-in-None
returns-in-None c = ap (option_map (λ entry. entry.bytes.items)) c.in-None.ensures ∙ text_in-entries c.args.entries.now c.args.name.now
