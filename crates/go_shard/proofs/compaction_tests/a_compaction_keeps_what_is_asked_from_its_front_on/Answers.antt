-- The later front is kept through a compaction, and by a shard with other pins.
use Rattle.std.proofs.Common.{arith, sym, subst}
use Rattle.go_shard.specs.ShardState.{ShardState, Keeps}
use Rattle.go_shard.proofs.compaction_tests.a_compaction_keeps_what_is_asked_from_its_front_on.Goals as goal

pub degree_at-late-requires-clause-kept : goal.degree_at-late-requires-clause-kept
degree_at-late-requires-clause-kept g c = c.in_ok-compact.ensures.forgotten.keeps 6 (omega arith) c.in_ok-shard.ensures.late

pub compact-requires-2-clause-kept : goal.compact-requires-2-clause-kept
compact-requires-2-clause-kept g c =
    subst (λ (s : ShardState). Keeps s 6) (sym c.unpin.ensures) (c.in_ok-compact.ensures.forgotten.keeps 6 (omega arith) c.in_ok-shard.ensures.late)
