-- A script that was read has no more steps than its text may have lines.
use Rattle.go_run.proofs.NamedTextLemmas.{few_steps}
use Rattle.go_run.proofs.named_text.script_in.Goals as goal

pub returns-in-Ok-clause-steps : goal.returns-in-Ok-clause-steps
returns-in-Ok-clause-steps c =
    record { within = c.in-Ok.ensures.within; few = few_steps c.args.vertices c.args.text.now c.in-Ok.script c.requires c.in-Ok.ensures.exact }
