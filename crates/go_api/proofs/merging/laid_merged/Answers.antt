-- The laws of an interleaving.
use Rattle.go_api.proofs.MergeLemmas.{begins_with, merged}
use Rattle.go_api.proofs.merging.laid_merged.Goals as goal

pub returns-clause-begins : goal.returns-clause-begins
returns-clause-begins c = begins_with

pub returns-clause-merged : goal.returns-clause-merged
returns-clause-merged c = merged
