-- `with_next`: the next block has the next entry.
use Rattle.std.proofs.Common.{refl, ap, ◌∙◌}
use Rattle.std.specs.Prelude.{min}
use Rattle.go_durable.proofs.Runs.{run_goes_on}
use Rattle.go_durable.proofs.run.with_next.Goals as goal

pub returns : goal.returns
returns c =
    run_goes_on c.args.places.now c.args.run _ c.args.b c.requires.blocks c.requires.run c.requires.block c.requires.more c.requires.within refl refl refl
    (c.min.ensures ∙ ap (min c.args.b) c.entries_up_to.ensures)
