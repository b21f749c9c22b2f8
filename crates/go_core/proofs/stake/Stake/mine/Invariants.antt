-- `mine`: the party's among the pins so far.
use Rattle.std.proofs.Common.{◌≡◌, take}
use Rattle.std.specs.Prelude.{filter}
use Rattle.go_core.specs.Turns.{is_mine}
use Rattle.go_core.proofs.stake.Stake.mine.Given as goal

abbrev pub invariant-loop-pin : goal.invariant-loop-pin
invariant-loop-pin l = l.list ≡ filter (is_mine l.self l.old) (take l.pin-index l.new)
