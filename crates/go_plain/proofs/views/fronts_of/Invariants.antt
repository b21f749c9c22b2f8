-- The loop of `fronts_of`.
use Rattle.std.proofs.Common.{◌≡◌, take}
use Rattle.go_plain.specs.Seats.{all_views}
use Rattle.go_plain.proofs.views.fronts_of.Given as goal

-- the fronts of the views of the sessions so far
abbrev pub invariant-loop-seat : goal.invariant-loop-seat
invariant-loop-seat l = l.fronts.items ≡ all_views (take l.seat-index l.seats)
