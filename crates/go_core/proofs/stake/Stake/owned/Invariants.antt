-- `owned`: the party's among the pins so far.
use Rattle.std.proofs.Common.{◌≡◌, take}
use Rattle.std.specs.Prelude.{filter}
use Rattle.go_core.specs.Pins.{owns_name}
use Rattle.go_core.proofs.stake.Stake.owned.Given as goal

abbrev pub invariant-loop-pin : goal.invariant-loop-pin
invariant-loop-pin l = l.list ≡ filter (λ pin. owns_name pin.id l.self.pins l.self.put) (take l.pin-index l.pins)
