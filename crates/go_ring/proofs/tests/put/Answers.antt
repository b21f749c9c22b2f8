-- `put`: a new claim is owed, and its edges are those that were handed in.
use Rattle.std.proofs.Common.{ap}
use Rattle.go_ring.proofs.Puts.{claim_owed, claim_storable}
use Rattle.go_ring.proofs.tests.put.Goals as goal

pub fill_in_time-requires-clause-owed : goal.fill_in_time-requires-clause-owed
fill_in_time-requires-clause-owed c =
    let claimed = c.claim-claim.ensures in
    claim_owed c.claim-claim.result c.args.edges.now c.args.seat.now.me.0.core.pending c.claim-claim.new.seat.me.0.core.pending claimed.edges
    (ap (λ z. z.0.core.pending) claimed.tells.0)

pub fill_in_time-requires-clause-storable : goal.fill_in_time-requires-clause-storable
fill_in_time-requires-clause-storable c = claim_storable c.claim-claim.result c.args.edges.now c.claim-claim.ensures.edges c.requires.storable
