-- The loop of `filled`.
use Rattle.std.proofs.Common.{arith}
use Rattle.go_bench.proofs.FilledLemmas.{filled_more}
use Rattle.go_bench.proofs.shard.filled.Goals as goal

pub loop-left-preserved : goal.loop-left-preserved
loop-left-preserved c = record {
  within = omega arith;
  filled = filled_more c.loop-left.shard c.append.new.self _ _ _ _ c.loop-left.invariant.filled (omega (
    arith,
    c.loop-left.invariant.within,
  )) c.in_ok-append.ensures.grown;
}
