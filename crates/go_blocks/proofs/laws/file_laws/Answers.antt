-- The laws of log files: each by its lemma.
use Rattle.go_blocks.proofs.FaultLaws.{no_fault, same_fault}
use Rattle.go_blocks.proofs.FileLaws.{same_file, IsFront-header, IsFront-more, File-closed, IsClosedBy-kept}
use Rattle.go_blocks.proofs.Steps.{IsReadOf-front}
use Rattle.go_blocks.proofs.laws.file_laws.Goals as goal

pub returns-clause-one_log : goal.returns-clause-one_log
returns-clause-one_log c = λ v w log other bytes file file'. same_file v w log other bytes file file'

pub returns-clause-no_fault : goal.returns-clause-no_fault
returns-clause-no_fault c = λ v log bytes bad file fault. no_fault v log bytes bad file fault

pub returns-clause-one_fault : goal.returns-clause-one_fault
returns-clause-one_fault c = λ bytes bad other fault fault'. same_fault bytes bad other fault fault'

pub returns-clause-header : goal.returns-clause-header
returns-clause-header c = λ gate v is_open count. IsFront-header gate v is_open count

pub returns-clause-block : goal.returns-clause-block
returns-clause-block c = λ v log edges front gate is_front is_open count within. IsFront-more v log front gate edges is_front is_open count within

pub returns-clause-torn : goal.returns-clause-torn
returns-clause-torn c = λ front bytes torn closed same. IsClosedBy-kept front bytes torn closed same

pub returns-clause-closed : goal.returns-clause-closed
returns-clause-closed c = λ v log front rest is_front. File-closed v log front rest is_front

pub returns-clause-read : goal.returns-clause-read
returns-clause-read c = λ bytes file read. IsReadOf-front bytes file read
