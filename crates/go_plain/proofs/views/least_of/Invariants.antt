-- The loop of `least_of`.
use Rattle.std.proofs.Common.{take}
use Rattle.go_plain.specs.Views.{IsLeast}
use Rattle.go_plain.proofs.views.least_of.Given as goal

-- the least of the bound and the fronts so far
abbrev pub invariant-loop-front : goal.invariant-loop-front
invariant-loop-front l = IsLeast l.bound (take l.front-index l.fronts) l.least
