-- The loop of `next_stop`.
use Rattle.std.proofs.Common.{◌<◌, ◌≤◌, take}
use Rattle.std.specs.Prelude.{All}
use Rattle.go_shard.specs.Parts.{IsBeside}
use Rattle.go_shard.proofs.catching_up.next_stop.Given as goal

-- no stop so far is between
abbrev pub invariant-loop-stop : goal.invariant-loop-stop
invariant-loop-stop l = (l.start < l.end) × (l.end ≤ l.head) × All (IsBeside l.start l.end) (take l.stop-index l.stops)
