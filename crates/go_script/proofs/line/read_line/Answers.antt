-- A line is read as its first words are.
use Rattle.std.proofs.Common.{subst, ap, ◌∙◌, List, ℕ, Result, Option}
use Rattle.go_text.specs.Word.{words}
use Rattle.go_text.specs.declared.faults.FaultKind.{FaultKind}
use Rattle.go_script.specs.declared.command.Command.{Command}
use Rattle.go_script.specs.Grammar.{line_of}
use Rattle.go_script.specs.Answers.{Answers}
use Rattle.go_script.proofs.GrammarLemmas.{line_of-take}
use Rattle.go_script.proofs.line.read_line.Goals as goal

pub returns-clause-exact : goal.returns-clause-exact
returns-clause-exact c = λ before tells.
    subst (λ (written : Result (Option Command) FaultKind). Answers written c.read_words.result)
    (ap (λ (ws : List (List ℕ)). line_of c.args.vertices before ws) (c.as_slice.ensures ∙ c.of.ensures)
    ∙ line_of-take c.args.vertices before (words c.args.line.now))
    (c.read_words.ensures.exact before tells)
