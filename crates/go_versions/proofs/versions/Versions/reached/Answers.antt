-- Where a later version reaches the front, all first ones do.
use Rattle.std.proofs.Common.{◌+◌, ℕ, List, length, sym, ap, subst, ◌≤◌}
use Rattle.go_versions.specs.Version.{Version}
use Rattle.go_versions.specs.History.{IsRising}
use Rattle.go_versions.proofs.HistoryLemmas.{PartsAt, IsRising-left, IsRising-right, PartsAt-both}
use Rattle.go_versions.proofs.versions.Versions.reached.Goals as goal

pub reached-later-requires : goal.reached-later-requires
reached-later-requires c = subst IsRising (sym c.deref.ensures.value) (IsRising-right c.self.inside.early c.self.inside.noted.items c.self.invariant)

pub reached-requires : goal.reached-requires
reached-requires c = subst IsRising (sym c.versions.ensures) (IsRising-left c.self.inside.early c.self.inside.noted.items c.self.invariant)

pub returns-else-later-eq0-clause-parts : goal.returns-else-later-eq0-clause-parts
returns-else-later-eq0-clause-parts c =
    let short : c.reached-later.result ≤ length c.self.inside.noted.items =
    subst (λ (l : List Version). c.reached-later.result ≤ length l) c.deref.ensures.value c.reached-later.ensures.bound in
    let later : PartsAt c.args.front c.self.inside.noted.items c.reached-later.result =
    subst (λ (l : List Version). PartsAt c.args.front l c.reached-later.result) c.deref.ensures.value c.reached-later.ensures.parts in
    subst (λ (n : ℕ). PartsAt c.args.front c.args.self.now.versions (n + c.reached-later.result)) (sym c.len.ensures.count)
    (subst (λ (l : List Version). PartsAt c.args.front l (length c.self.inside.early + c.reached-later.result)) (ap (λ v. v.versions) c.self.view_is)
    (PartsAt-both c.args.front c.self.inside.early c.self.inside.noted.items c.reached-later.result c.self.invariant short c.if-later-eq0.false later))
