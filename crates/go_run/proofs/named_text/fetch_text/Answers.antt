-- What `fetch_text` gives for each answer of the shelf.
use Rattle.std.proofs.Common.{ℕ, List, inr, refl}
use Rattle.go_run.specs.Input.{text_under}
use Rattle.go_run.specs.declared.status.Status.TheVariants.{Memory}
use Rattle.go_run.proofs.NamedTextLemmas.{fetched_whole, fetched_missing, fetched_too_long, fetched_failed}
use Rattle.go_run.proofs.named_text.fetch_text.Goals as goal

pub returns-in-Whole-clause-read : goal.returns-in-Whole-clause-read
returns-in-Whole-clause-read g c =
    fetched_whole (g.H.Shelf.texts c.args.shelf.now) c.args.name.now c.fetch.new.out.items c.in-Whole.ensures.answer (c.in-Whole.ensures.within refl)

pub returns-in-Missing-clause-read : goal.returns-in-Missing-clause-read
returns-in-Missing-clause-read g c =
    fetched_missing (g.H.Shelf.texts c.args.shelf.now) c.args.name.now c.fetch.new.out.items c.no_file.result c.in-Missing.ensures.answer c.no_file.ensures

pub returns-in-TooLong-clause-read : goal.returns-in-TooLong-clause-read
returns-in-TooLong-clause-read g c =
    fetched_too_long (g.H.Shelf.texts c.args.shelf.now) c.args.name.now c.fetch.new.out.items c.in-TooLong.ensures.answer

pub returns-in-Failed-clause-read : goal.returns-in-Failed-clause-read
returns-in-Failed-clause-read g c =
    fetched_failed {A = List ℕ} (g.H.Shelf.texts c.args.shelf.now) c.args.name.now (text_under c.args.name.now) c.read_fault.result c.read_fault.ensures

pub returns-in-Memory-clause-read : goal.returns-in-Memory-clause-read
returns-in-Memory-clause-read g c =
    fetched_failed {A = List ℕ} (g.H.Shelf.texts c.args.shelf.now) c.args.name.now (text_under c.args.name.now) Memory (inr refl)
