-- `run_from`: it begins with one block, and the lengths of runs are small.
use Rattle.std.proofs.Common.{◌≡◌, ◌+◌, refl, ap, ◌∙◌, arith}
use Rattle.std.specs.Prelude.{min, take}
use Rattle.go_durable.specs.LogState.{entries_at}
use Rattle.go_durable.proofs.Runs.{one_block, one_block_fits, run_bounds}
use Rattle.go_durable.proofs.run.run_from.Goals as goal

pub loop-run-init : goal.loop-run-init
loop-run-init c =
    let upto : c.min.result ≡ min c.args.b (entries_at (take (c.args.number + 1) c.args.places.now)) =
    c.min.ensures ∙ ap (min c.args.b) c.entries_up_to.ensures in
    record {
      is_run = one_block c.args.places.now _ c.args.b c.requires.begins c.requires.order refl upto;
      from = refl;
      upto = upto;
      fits = one_block_fits c.args.places.now _ c.args.b c.args.most c.requires.blocks c.requires.begins refl upto c.requires.fits;
    }

pub length-requires-clause-order : goal.length-requires-clause-order
length-requires-clause-order c = (run_bounds c.args.places.now c.with_next-longer.result c.with_next-longer.ensures.is_run).order

pub length-requires-clause-few_blocks : goal.length-requires-clause-few_blocks
length-requires-clause-few_blocks c = omega (arith, (run_bounds c.args.places.now c.with_next-longer.result c.with_next-longer.ensures.is_run).blocks)

pub length-requires-clause-few_entries : goal.length-requires-clause-few_entries
length-requires-clause-few_entries c = omega (arith, (run_bounds c.args.places.now c.with_next-longer.result c.with_next-longer.ensures.is_run).entries)
