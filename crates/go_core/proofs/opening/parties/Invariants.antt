-- `parties`: one for each role so far.
use Rattle.std.proofs.Common.{◌≡◌, map, take}
use Rattle.go_core.specs.Opening.{opening_party}
use Rattle.go_core.proofs.opening.parties.Given as goal

abbrev pub invariant-loop-role : goal.invariant-loop-role
invariant-loop-role l = l.parties.items ≡ map (opening_party l.first) (take l.role-index l.roles)
