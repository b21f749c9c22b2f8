-- The place of a target: its own, or the one that the search finds.
use Rattle.go_net.proofs.TargetLemmas.{place-own, place-searched}
use Rattle.go_net.proofs.targets.place_of.Goals as goal

pub returns-then-targets-own : goal.returns-then-targets-own
returns-then-targets-own c = place-own c.args.targets.now c.args.d c.requires c.if-own-targets.true c.if-targets-own.true

pub returns : goal.returns
returns c = rw c.ok.ensures.value (place-searched c.args.targets.now c.args.d c.binary_search.result c.requires c.binary_search.ensures.position)
