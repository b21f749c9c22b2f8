-- The loop of `depth_of`.
use Rattle.std.proofs.Common.{take}
use Rattle.go_kernels.specs.Depth.{IsDepth}
use Rattle.go_kernels.proofs.counting.depth_of.Given as goal

-- it is the depth of the levels so far
abbrev pub invariant-loop-level : goal.invariant-loop-level
invariant-loop-level l = IsDepth (take l.level-index l.levels) l.depth
