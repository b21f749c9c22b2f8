-- A list that was read has no more entries than its text may have items.
use Rattle.std.proofs.Common.{List, sym, subst}
use Rattle.go_word.specs.declared.edge.Edge.{Edge}
use Rattle.go_run.specs.NamedText.{AreEntries}
use Rattle.go_run.proofs.NamedTextLemmas.{few_entries}
use Rattle.go_run.proofs.named_text.list_in.Goals as goal

pub returns-in-Ok-clause-entries : goal.returns-in-Ok-clause-entries
returns-in-Ok-clause-entries c =
    subst (λ (list : List Edge). AreEntries c.args.vertices list) (sym c.from_vec.ensures) (record {
      within = c.in-Ok.ensures.within;
      few = few_entries c.args.vertices c.args.text.now c.read_edges.new.out.items c.requires c.in-Ok.ensures.exact;
    })
