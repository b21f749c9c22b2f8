-- The loop of `move_named`.
use Rattle.std.proofs.Common.{◌≡◌, ◌++◌, take, drop, map, if◌then◌else◌}
use Rattle.go_word.specs.Pins.{is_named}
use Rattle.go_shard.proofs.pins.move_named.Given as goal

-- the pins so far are moved, where they have the name
abbrev pub invariant-loop-pin : goal.invariant-loop-pin
invariant-loop-pin l = l.pins ≡ map (λ pin. if is_named l.id pin then record { id = pin.id; front = l.front } else pin) (take l.pin-index l.initial.pins)
    ++ drop l.pin-index l.initial.pins
