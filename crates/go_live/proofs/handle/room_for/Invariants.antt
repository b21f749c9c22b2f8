-- `room_for`: so many places are free.
use Rattle.std.proofs.Common.{◌≡◌, ◌≤◌, length, replicate}
use Rattle.go_live.specs.declared.held.Held.TheVariants.{Free}
use Rattle.go_live.proofs.handle.room_for.Given as goal

abbrev pub invariant-loop : goal.invariant-loop
invariant-loop l = l.held.items ≡ replicate l.counter Free
