-- One pin more, by the lemma.
use Rattle.std.proofs.Common.{if◌then◌else◌}
use Rattle.go_word.specs.declared.pin.Pin.{Pin}
use Rattle.go_word.specs.Pins.{is_named}
use Rattle.go_shard.proofs.FrontLemmas.{changed_step}
use Rattle.go_shard.proofs.pins.move_named.Goals as goal

pub loop-pin-preserved : goal.loop-pin-preserved
loop-pin-preserved c =
    let none : Pin = record { id = 0; front = 0 } in
    changed_step (λ pin. if is_named c.args.id pin then record { id = pin.id; front = c.args.front }
    else pin) c.args.pins.now c.loop-pin.pins c.loop-pin.pin-index none c.moved.result
    c.loop-pin-test.true c.loop-pin.invariant c.moved.ensures
