-- `fill_after_turns`: the claim that was held is owed still after the turns.
use Rattle.std.proofs.Common.{[], ◌∷◌, take, sym, ap, arith, subst}
use Rattle.std.specs.Prelude.{All}
use Rattle.go_word.specs.Word.{IsStorable}
use Rattle.go_ring.specs.declared.claim.Claim.{Claim}
use Rattle.go_rule.specs.Views.{frame_of}
use Rattle.go_ring.proofs.Puts.{claim_owed, owed_still, held_owed, claim_storable, one_storable}
use Rattle.go_ring.proofs.worker_tests.fill_after_turns.Goals as goal

pub fill-requires-clause-owed : goal.fill-requires-clause-owed
fill-requires-clause-owed c =
    let claimed = c.claim-claim.ensures in
    claim_owed c.claim-claim.result (c.edge_to.result ∷ []) c.args.seat.now.me.0.core.pending c.claim-claim.new.seat.me.0.core.pending claimed.edges
    (ap (λ z. z.0.core.pending) claimed.tells.0)

pub fill_in_time-requires-clause-owed : goal.fill_in_time-requires-clause-owed
fill_in_time-requires-clause-owed c =
    let claimed = c.claim-claim.ensures in
    let ring = c.args.ring.now.table.shared in
    let held = c.in-Held.ensures.fills in
    owed_still c.claim-claim.result c.in-Held.claim c.claim-claim.new.seat.me.0.core.pending c.fill.new.seat.me.0.core.pending held.0
    (held_owed (λ s. s) (frame_of ring.key) ring.table_id.slots c.claim-claim.result c.in-Held.released c.claim-claim.new.seat.me c.fill.new.seat.me held.1)
    (claim_owed c.claim-claim.result (c.edge_to.result ∷ []) c.args.seat.now.me.0.core.pending c.claim-claim.new.seat.me.0.core.pending claimed.edges
    (ap (λ z. z.0.core.pending) claimed.tells.0))

pub fill-requires-clause-storable : goal.fill-requires-clause-storable
fill-requires-clause-storable c =
    let src = ap (λ e. e.src) c.edge_to.ensures in
    let dst = ap (λ e. e.dst) c.edge_to.ensures in
    claim_storable c.claim-claim.result (c.edge_to.result ∷ []) c.claim-claim.ensures.edges (one_storable c.edge_to.result (omega arith) (omega arith))

pub fill_in_time-requires-clause-storable : goal.fill_in_time-requires-clause-storable
fill_in_time-requires-clause-storable c =
    let src = ap (λ e. e.src) c.edge_to.ensures in
    let dst = ap (λ e. e.dst) c.edge_to.ensures in
    subst (λ (k : Claim). All IsStorable (take k.len k.edges)) (sym c.in-Held.ensures.fills.0)
    (claim_storable c.claim-claim.result (c.edge_to.result ∷ []) c.claim-claim.ensures.edges (one_storable c.edge_to.result (omega arith) (omega arith)))
