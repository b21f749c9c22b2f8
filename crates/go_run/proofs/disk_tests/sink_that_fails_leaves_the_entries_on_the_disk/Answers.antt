-- What the run over a small store needs.
use Rattle.go_run.proofs.SetupLemmas.{small_setup}
use Rattle.go_run.proofs.disk_tests.sink_that_fails_leaves_the_entries_on_the_disk.Goals as goal

pub run_with-outcome-requires-clause-setup : goal.run_with-outcome-requires-clause-setup
run_with-outcome-requires-clause-setup g c lifetimes = small_setup
