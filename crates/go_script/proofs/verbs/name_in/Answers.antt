-- A word is a name exactly where it is UTF-8.
use Rattle.go_script.proofs.GrammarLemmas.{name_in-valid, name_in-invalid}
use Rattle.go_script.proofs.verbs.name_in.Goals as goal

pub returns-in-Ok : goal.returns-in-Ok
returns-in-Ok c = name_in-valid c.args.word.now c.in-Ok.name.now c.in-Ok.ensures.cases.0 c.in-Ok.ensures.cases.1

pub returns-in-Err : goal.returns-in-Err
returns-in-Err c = name_in-invalid c.args.word.now c.in-Err.ensures.cases.0
