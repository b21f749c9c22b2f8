-- `assured`: the loads so far, and those that are left.
use Rattle.std.proofs.Common.{◌≡◌, ◌++◌, map, length}
use Rattle.go_core.specs.View.{assured}
use Rattle.go_core.proofs.lists.assured.Given as goal

abbrev pub invariant-loop-load : goal.invariant-loop-load
invariant-loop-load l = l.list ++ map (assured l.front) l.rest ≡ map (assured l.front) l.loads

abbrev pub decreases-loop-load : goal.decreases-loop-load
decreases-loop-load l = length l.rest
