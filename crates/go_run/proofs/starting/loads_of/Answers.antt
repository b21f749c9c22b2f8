-- One command more is counted.
use Rattle.std.proofs.Common.{◌≡◌, ◌∙◌, sym, ap, arith, true, false}
use Rattle.go_script.specs.Commands.{commands_of, put_by}
use Rattle.go_script.specs.Until.{is_listed}
use Rattle.go_run.proofs.TaskLemmas.{count_next}
use Rattle.go_run.proofs.starting.loads_of.Goals.{then-is_listed, else-is_listed}
use Rattle.go_run.proofs.starting.loads_of.Goals as goal

pub loop-at-preserved : goal.loop-at-preserved
loop-at-preserved c =
    let put = sym (ap is_listed c.puts.ensures) in
    elim c.if-is_listed.branch [
      | then-is_listed w ↦ (
        count_next (λ command. is_listed (put_by command)) (commands_of c.args.script.now) c.loop-at.at c.command.result.now c.loop-at.count
            c.if-is_listed.count true c.command.ensures.command c.loop-at.invariant.0 (put ∙ sym c.is_listed.ensures ∙ w.if-is_listed.true)
            (omega (arith, w.count-is)),
        omega (arith, w.count-is, c.loop-at.invariant.1),
      )
      | else-is_listed w ↦ (
        count_next (λ command. is_listed (put_by command)) (commands_of c.args.script.now) c.loop-at.at c.command.result.now c.loop-at.count
            c.if-is_listed.count false c.command.ensures.command c.loop-at.invariant.0 (put ∙ sym c.is_listed.ensures ∙ w.if-is_listed.false)
            (omega (arith, w.count-is)),
        omega (arith, w.count-is, c.loop-at.invariant.1),
      )
    ]
