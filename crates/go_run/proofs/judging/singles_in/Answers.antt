-- One command more is counted.
use Rattle.std.proofs.Common.{◌≡◌, ◌∙◌, sym, ap, arith, true, false}
use Rattle.go_script.specs.Commands.{commands_of, put_by}
use Rattle.go_run.specs.Judged.{is_single}
use Rattle.go_run.proofs.TaskLemmas.{count_next}
use Rattle.go_run.proofs.judging.singles_in.Goals.{then-is_single, else-is_single}
use Rattle.go_run.proofs.judging.singles_in.Goals as goal

pub loop-at-preserved : goal.loop-at-preserved
loop-at-preserved c =
    let put = sym (ap is_single c.puts.ensures) in
    elim c.if-is_single.branch [
      | then-is_single w ↦ (
        count_next (λ command. is_single (put_by command)) (commands_of c.args.script.now) c.loop-at.at c.command.result.now c.loop-at.count
            c.if-is_single.count true c.command.ensures.command c.loop-at.invariant.0 (put ∙ sym c.is_single.ensures ∙ w.if-is_single.true)
            (omega (arith, w.count-is)),
        omega (arith, w.count-is, c.loop-at.invariant.1),
      )
      | else-is_single w ↦ (
        count_next (λ command. is_single (put_by command)) (commands_of c.args.script.now) c.loop-at.at c.command.result.now c.loop-at.count
            c.if-is_single.count false c.command.ensures.command c.loop-at.invariant.0 (put ∙ sym c.is_single.ensures ∙ w.if-is_single.false)
            (omega (arith, w.count-is)),
        omega (arith, w.count-is, c.loop-at.invariant.1),
      )
    ]
