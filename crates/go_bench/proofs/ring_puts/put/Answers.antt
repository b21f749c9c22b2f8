-- `put`: a new claim is owed, and its edges are those that were handed in.
use Rattle.std.proofs.Common.{ap}
use Rattle.go_ring.proofs.Puts.{claim_owed, claim_storable}
use Rattle.go_bench.proofs.ring_puts.put.Goals as goal

pub fill-requires-clause-owed : goal.fill-requires-clause-owed
fill-requires-clause-owed c =
    let claimed = c.claim-claim.ensures in
    claim_owed c.claim-claim.result c.args.edges.now c.args.seat.now.me.0.core.pending c.claim-claim.new.seat.me.0.core.pending claimed.edges
    (ap (λ z. z.0.core.pending) claimed.tells.0)

pub fill-requires-clause-storable : goal.fill-requires-clause-storable
fill-requires-clause-storable c = claim_storable c.claim-claim.result c.args.edges.now c.claim-claim.ensures.edges c.requires.storable
