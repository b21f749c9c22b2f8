-- One pin more, by the lemmas.
use Rattle.std.proofs.Common.{◌≡◌, take, get_or, true, false, arith}
use Rattle.std.proofs.lemmas.Bool.Decides.{nat_tests}
use Rattle.std.proofs.lemmas.List.{take_more}
use Rattle.go_word.specs.declared.pin.Pin.{Pin}
use Rattle.go_word.specs.Pins.{is_named}
use Rattle.go_shard.proofs.FrontLemmas.{has_at, none_named}
use Rattle.go_shard.proofs.pins.is_pinned.Goals as goal

pub loop-pin-preserved : goal.loop-pin-preserved
loop-pin-preserved c =
    let none : Pin = record { id = 0; front = 0 } in
    let i = c.loop-pin.pin-index in
    let other : is_named c.args.id (get_or c.args.pins.now i none) ≡ false = grind (arith, nat_tests) in
    rw (take_more c.args.pins.now i none c.loop-pin-test.true) (none_named c.args.id (take i c.args.pins.now)
    (get_or c.args.pins.now i none) c.loop-pin.invariant other)

pub returns-then-pin-id : goal.returns-then-pin-id
returns-then-pin-id c =
    let none : Pin = record { id = 0; front = 0 } in
    let named : is_named c.args.id (get_or c.args.pins.now c.loop-pin.pin-index none) ≡ true = grind (arith, nat_tests) in
    has_at c.args.id c.args.pins.now c.loop-pin.pin-index none c.loop-pin-test.true named
