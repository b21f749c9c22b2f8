-- Bytes recover to one log at most.
use Rattle.std.proofs.Common.{inr}
use Rattle.go_durable.proofs.Recovered.{left_recovers}
use Rattle.go_durable.proofs.Standing.{file_is_made, one_recovery}
use Rattle.go_durable.proofs.laws.recovery_laws.Goals as goal

pub returns-clause-one_log : goal.returns-clause-one_log
returns-clause-one_log c = λ v w log other bytes recovers also. one_recovery v w log other bytes recovers also

pub returns-clause-a_file : goal.returns-clause-a_file
returns-clause-a_file c = λ v log bytes file. inr file

pub returns-clause-made : goal.returns-clause-made
returns-clause-made c = λ v log bytes file unmade. file_is_made v log bytes file unmade

pub returns-clause-left : goal.returns-clause-left
returns-clause-left c = λ v log bytes image recovers left. left_recovers v log bytes image recovers left
