-- What holds of every store.
use Rattle.std.proofs.Common.{subst}
use Rattle.go_plain.specs.Plain.{PlainState, IsStore}
use Rattle.go_plain.proofs.StandingLemmas.{plain_store}
use Rattle.go_plain.proofs.body.Body.check.Goals as goal

pub returns : goal.returns
returns g c = subst (λ (s : PlainState _). IsStore g.D.Disk.device s) c.self.view_is
    (plain_store g.D.Disk.device _ c.self.inside.ring c.self.inside.shards.items c.self.invariant.1)
