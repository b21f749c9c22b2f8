-- `copy_before_fill`: the claim is owed still after the copy.
use Rattle.std.proofs.Common.{[], ◌∷◌, ap, ◌∙◌, arith}
use Rattle.go_ring.proofs.Puts.{claim_owed, claim_storable, one_storable}
use Rattle.go_ring.proofs.tests.copy_before_fill.Goals as goal

pub fill_in_time-requires-clause-owed : goal.fill_in_time-requires-clause-owed
fill_in_time-requires-clause-owed c =
    let claimed = c.claim-claim.ensures in
    claim_owed c.claim-claim.result (c.edge_to.result ∷ []) c.args.seat.now.me.0.core.pending c.copy-copied.new.seat.me.0.core.pending claimed.edges
    (ap (λ z. z.core.pending) c.copy-copied.ensures.copies.on.rest ∙ ap (λ z. z.0.core.pending) claimed.tells.0)

pub fill_in_time-requires-clause-storable : goal.fill_in_time-requires-clause-storable
fill_in_time-requires-clause-storable c =
    let src = ap (λ e. e.src) c.edge_to.ensures in
    let dst = ap (λ e. e.dst) c.edge_to.ensures in
    let less = c.requires.below.0 in
    claim_storable c.claim-claim.result (c.edge_to.result ∷ []) c.claim-claim.ensures.edges (one_storable c.edge_to.result (omega arith) (omega arith))
