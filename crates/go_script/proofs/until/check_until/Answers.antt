-- Each script is judged beside the others.
use Rattle.std.proofs.Common.{drop, arith}
use Rattle.go_script.specs.Until.{counted_of}
use Rattle.go_script.specs.Walked.{session_of}
use Rattle.go_script.proofs.SessionLemmas.{Reached_start, Reached_next, files_there, sum-drop-le, slice_get-read}
use Rattle.go_script.proofs.SessionLemmas.{session-at, early-le, KeptTo_next, KeptTo_all, IsFirstAgainst-from}
use Rattle.go_script.proofs.until.check_until.Goals as goal

pub loop-i-init : goal.loop-i-init
loop-i-init c = (Reached_start c.args.scripts.now c.args.loads.now c.requires.counted, λ j n below asks. absurd (omega (arith, below)))

pub judge-requires-clause-told : goal.judge-requires-clause-told
judge-requires-clause-told c =
    let scripts = c.args.scripts.now in
    let steps = c.index-scripts-i.result in
    let here = slice_get-read scripts c.loop-i.i steps c.loop-i-test.true c.index-scripts-i.is in
    rw c.left_from.ensures (files_there scripts c.args.loads.now c.loop-i.i c.loop-i.from steps c.loop-i.invariant.0 here)

pub judge-requires-clause-small : goal.judge-requires-clause-small
judge-requires-clause-small c = rw c.left_from.ensures (omega (arith, sum-drop-le c.args.loads.now c.loop-i.from, c.requires.small))

pub judge-requires-clause-among : goal.judge-requires-clause-among
judge-requires-clause-among c =
    let scripts = c.args.scripts.now in
    let loads = c.args.loads.now in
    let steps = c.index-scripts-i.result in
    let here = slice_get-read scripts c.loop-i.i steps c.loop-i-test.true c.index-scripts-i.is in
    let at = session-at scripts loads c.loop-i.i c.loop-i.from steps c.loop-i.invariant.0 here in
    rw c.left_from.ensures
    (omega (arith, c.total_early-total.ensures.exact, early-le (counted_of scripts loads) c.loop-i.i (session_of steps (drop c.loop-i.from loads)) at))

pub loop-i-preserved : goal.loop-i-preserved
loop-i-preserved c =
    let scripts = c.args.scripts.now in
    let loads = c.args.loads.now in
    let steps = c.index-scripts-i.result in
    let here = slice_get-read scripts c.loop-i.i steps c.loop-i-test.true c.index-scripts-i.is in
    let judged = rw c.left_from.ensures at c.in-Ok.ensures in (
      Reached_next scripts loads c.loop-i.i c.loop-i.from steps c.in-Ok.count c.loop-i.invariant.0 here judged.0,
      KeptTo_next scripts loads c.loop-i.i c.loop-i.from steps c.total_early-total.result c.loop-i.invariant.0 here
          c.total_early-total.ensures.exact c.loop-i.invariant.1 judged.1,
    )

pub returns-in-Err : goal.returns-in-Err
returns-in-Err c =
    let scripts = c.args.scripts.now in
    let loads = c.args.loads.now in
    let steps = c.index-scripts-i.result in
    let here = slice_get-read scripts c.loop-i.i steps c.loop-i-test.true c.index-scripts-i.is in
    let found = rw c.left_from.ensures at c.in-Err.ensures in
    IsFirstAgainst-from scripts loads c.loop-i.i c.loop-i.from steps c.total_early-total.result c.in-Err.line c.loop-i.invariant.0 here
    c.total_early-total.ensures.exact c.loop-i.invariant.1 found

pub returns : goal.returns
returns c = KeptTo_all c.args.scripts.now c.args.loads.now c.loop-i.i c.loop-i-test.false c.loop-i.invariant.1
