-- One script more is summed.
use Rattle.std.proofs.Common.{◌∙◌, refl, arith}
use Rattle.go_script.proofs.SessionLemmas.{Reached_start, Reached_next, files_there, sum-drop-le, slice_get-read, total_next, total_all}
use Rattle.go_script.proofs.until.total_early.Goals as goal

pub loop-i-init : goal.loop-i-init
loop-i-init c = (Reached_start c.args.scripts.now c.args.loads.now c.requires.counted, refl, omega arith)

pub early_of-early-requires-clause-told : goal.early_of-early-requires-clause-told
early_of-early-requires-clause-told c =
    let scripts = c.args.scripts.now in
    let steps = c.index-scripts-i.result in
    let here = slice_get-read scripts c.loop-i.i steps c.loop-i-test.true c.index-scripts-i.is in
    rw c.left_from.ensures (files_there scripts c.args.loads.now c.loop-i.i c.loop-i.from steps c.loop-i.invariant.0 here)

pub early_of-early-requires-clause-small : goal.early_of-early-requires-clause-small
early_of-early-requires-clause-small c = rw c.left_from.ensures (omega (arith, sum-drop-le c.args.loads.now c.loop-i.from, c.requires.small))

pub loop-i-preserved : goal.loop-i-preserved
loop-i-preserved c =
    let scripts = c.args.scripts.now in
    let loads = c.args.loads.now in
    let steps = c.index-scripts-i.result in
    let here = slice_get-read scripts c.loop-i.i steps c.loop-i-test.true c.index-scripts-i.is in
    let puts = rw c.left_from.ensures at c.early_of-early.ensures.puts in (
      Reached_next scripts loads c.loop-i.i c.loop-i.from steps c.early_of-early.result.loads c.loop-i.invariant.0 here c.early_of-early.ensures.loads,
      total_next scripts loads c.loop-i.i c.loop-i.from steps c.loop-i.total c.from-total.result c.loop-i.invariant.0 here (c.from-total.ensures ∙ puts)
          c.loop-i.invariant.1,
      omega (arith, c.loop-i.invariant.2, c.from-total.ensures, c.early_of-early.ensures.fits),
    )

pub returns-clause-exact : goal.returns-clause-exact
returns-clause-exact c =
    total_all c.args.scripts.now c.args.loads.now c.loop-i.i c.loop-i.total (omega (arith, c.loop-i.auto.i-end, c.loop-i-test.false)) c.loop-i.invariant.1
