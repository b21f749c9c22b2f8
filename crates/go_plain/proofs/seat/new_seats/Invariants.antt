-- The loop of `new_seats`.
use Rattle.std.proofs.Common.{◌≡◌, map, take}
use Rattle.go_plain.specs.Seats.{new_seat}
use Rattle.go_plain.proofs.seat.new_seats.Given as goal

-- the seats so far
abbrev pub invariant-loop-quota : goal.invariant-loop-quota
invariant-loop-quota l = l.seats.items ≡ map (new_seat l.seen) (take l.quota-index l.quotas)
