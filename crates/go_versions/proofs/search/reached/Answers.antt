-- Since fronts rise, the test that is searched for is true of a first part and false of the rest.
use Rattle.std.proofs.lemmas.List.Sorted.{IsPartitionedBy-leb, IsPartitionPoint-from_clause}
use Rattle.std.proofs.Common.{rules}
use Rattle.go_versions.specs.History.{reaches}
use Rattle.go_versions.proofs.HistoryLemmas.{PartsAt-from_tests, is_non_decreasing}
use Rattle.go_versions.proofs.search.reached.Goals as goal

pub returns-clause-parts : goal.returns-clause-parts
returns-clause-parts c =
    PartsAt-from_tests c.args.front c.args.versions.now c.partition_point.result
    (IsPartitionPoint-from_clause (reaches c.args.front) c.args.versions.now c.partition_point.result c.partition_point.ensures.partitioned
    (IsPartitionedBy-leb (λ v. v.front) c.args.versions.now c.args.front (is_non_decreasing c.args.versions.now c.requires)) (search rules))
