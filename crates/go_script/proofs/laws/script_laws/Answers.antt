-- The laws of the grammar.
use Rattle.std.proofs.Common.{[]}
use Rattle.std.specs.Str.Lines.{lines}
use Rattle.go_script.proofs.LawLemmas.{script_from-reads, first_fault, never_memory}
use Rattle.go_script.proofs.laws.script_laws.Goals as goal

pub returns-clause-steps : goal.returns-clause-steps
returns-clause-steps c = λ v text steps reads. script_from-reads v [] 1 (lines text) steps reads

pub returns-clause-fault : goal.returns-clause-fault
returns-clause-fault c = λ v text n kind fault. first_fault v [] 1 (lines text) n kind fault

pub returns-clause-no_other : goal.returns-clause-no_other
returns-clause-no_other c = λ v text fault. never_memory v [] 1 (lines text) fault
