-- One front more.
use Rattle.go_plain.proofs.LeastLemmas.{least_step}
use Rattle.go_plain.proofs.views.least_of.Goals as goal

pub loop-front-preserved : goal.loop-front-preserved
loop-front-preserved c =
    least_step c.args.fronts.now c.loop-front.front-index 0 c.args.bound c.loop-front.least c.min-least.result c.loop-front-test.true
    c.loop-front.invariant c.min-least.ensures
