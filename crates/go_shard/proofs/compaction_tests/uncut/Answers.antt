-- What was kept before the last batch still is.
use Rattle.go_shard.proofs.compaction_tests.uncut.Goals as goal

pub returns-clause-late : goal.returns-clause-late
returns-clause-late c = c.in_ok-append-2.ensures.grown.keeps 6 c.in_ok-append.ensures.grown.keeps_front
