-- One more command is counted where it is a load.
use Rattle.std.proofs.Common.{◌+◌, ◌∙◌, sym, ap, ℕ}
use Rattle.go_script.specs.Commands.{commands_of, put_by}
use Rattle.go_script.specs.Until.{is_listed}
use Rattle.go_script.proofs.TallyLemmas.{count-yes, count-no}
use Rattle.go_script.proofs.tally.loads_in.Goals as goal
use Rattle.go_script.proofs.tally.loads_in.Goals.{then-is_listed, else-is_listed}

pub loop-at-preserved : goal.loop-at-preserved
loop-at-preserved c =
    let commands = commands_of c.args.script.now in
    let put = sym (ap is_listed c.puts.ensures) in
    elim c.if-is_listed.branch [
      | then-is_listed w ↦ w.loads-is ∙ ap (λ (n : ℕ). n + 1) c.loop-at.invariant
          ∙ sym (count-yes (λ command. is_listed (put_by command)) commands c.loop-at.at c.command.result.now c.command.ensures.command
          (put ∙ sym w.if-is_listed.ensures))
      | else-is_listed w ↦ w.loads-is ∙ c.loop-at.invariant
          ∙ sym (count-no (λ command. is_listed (put_by command)) commands c.loop-at.at c.command.result.now c.command.ensures.command
          (put ∙ sym w.if-is_listed.ensures))
    ]
