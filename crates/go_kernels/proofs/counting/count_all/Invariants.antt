-- The loop of `count_all`.
use Rattle.std.proofs.Common.{◌≡◌, length, take}
use Rattle.go_kernels.specs.Depth.{AreCounted}
use Rattle.go_kernels.proofs.counting.count_all.Given as goal

-- the levels so far are counted
abbrev pub invariant-loop-level : goal.invariant-loop-level
invariant-loop-level l = record {
  same : length l.counts ≡ length l.fn.counts;
  counted : AreCounted (take l.level-index l.levels) l.counts l.unreached;
}
