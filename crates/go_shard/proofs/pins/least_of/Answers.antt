-- One pin more, by the lemma.
use Rattle.go_word.specs.declared.pin.Pin.{Pin}
use Rattle.go_shard.proofs.FrontLemmas.{least_step}
use Rattle.go_shard.proofs.pins.least_of.Goals as goal

pub loop-pin-preserved : goal.loop-pin-preserved
loop-pin-preserved c =
    let none : Pin = record { id = 0; front = 0 } in
    least_step c.args.pins.now c.loop-pin.pin-index none c.args.limit
    c.loop-pin.least c.min-least.result c.loop-pin-test.true c.loop-pin.invariant c.min-least.ensures
