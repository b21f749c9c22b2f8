-- The loop of `add_fronts`.
use Rattle.std.proofs.Common.{◌≡◌, ◌++◌, take}
use Rattle.go_plain.specs.Views.{views_of}
use Rattle.go_plain.proofs.views.add_fronts.Given as goal

-- the fronts of the views so far were added
abbrev pub invariant-loop-place : goal.invariant-loop-place
invariant-loop-place l = l.fronts.items ≡ l.initial.fronts.items ++ views_of (take l.place-index l.places)
