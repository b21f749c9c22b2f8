-- The laws of files of edges and of the generator.
use Rattle.go_loader.proofs.LawLemmas.{entries_law, fault_law, memory_law}
use Rattle.go_loader.proofs.GeneratedLemmas.{deletes_law}
use Rattle.go_loader.proofs.laws.loader_laws.Goals as goal

pub returns-clause-entries : goal.returns-clause-entries
returns-clause-entries c = λ reads n items edges is. entries_law reads n items edges is

pub returns-clause-fault : goal.returns-clause-fault
returns-clause-fault c = λ reads n items m kind is. fault_law reads n items m kind is

pub returns-clause-no_other : goal.returns-clause-no_other
returns-clause-no_other c = λ reads n items is. memory_law reads n items is

pub returns-clause-deletes : goal.returns-clause-deletes
returns-clause-deletes c = λ x v i eighth. deletes_law x v i eighth
