-- `fill`: loads of the fronts leave what the seat owes.
use Rattle.std.proofs.Common.{◌≡◌, List, take, sym, ap, ◌∙◌, subst}
use Rattle.std.specs.Prelude.{All, Contains}
use Rattle.go_core.specs.declared.entry.Entry.{Entry}
use Rattle.go_core.specs.View.{numbered}
use Rattle.go_ring.proofs.ring.RingRingCalls.fill.Goals as goal

pub store_all-requires-clause-owed : goal.store_all-requires-clause-owed
store_all-requires-clause-owed g c =
    let claim = c.args.claim in
    let same : c.load_durable-durable.new.seat.me.0.core.pending ≡ c.args.seat.now.me.0.core.pending =
    ap (λ z. z.0.core.pending) c.load_durable-durable.ensures.tells.becomes ∙ ap (λ z. z.0.core.pending) c.load_archived-archived.ensures.tells.becomes
    in
    subst (λ (xs : List Entry). All (Contains xs) (numbered claim.first (take claim.len claim.edges))) (sym same) c.requires.owed
