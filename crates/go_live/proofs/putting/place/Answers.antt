-- `place`: what the claim leaves is settled.
use Rattle.std.proofs.Common.{ap}
use Rattle.go_ring.proofs.Puts.{claim_storable}
use Rattle.go_live.proofs.Placing.{place_settles}
use Rattle.go_live.proofs.putting.place.Goals as goal

pub settle-requires-clause-storable : goal.settle-requires-clause-storable
settle-requires-clause-storable g c = claim_storable c.claim-claim.result c.args.edges.now c.claim-claim.ensures.edges c.requires.storable

pub returns-clause-places : goal.returns-clause-places
returns-clause-places g c =
    place_settles c.args.edges.now c.claim-claim.result c.args.seat.now.me.0 c.claim-claim.new.seat.me.0 c.settle.new.seat.me.0 c.requires.pending c.requires.quota
    (ap (λ z. z.0) c.claim-claim.ensures.tells.0) c.claim-claim.ensures.tells.1 c.claim-claim.ensures.tells.3 c.requires.own c.claim-claim.ensures.edges
    c.settle.result c.settle.ensures.settles
