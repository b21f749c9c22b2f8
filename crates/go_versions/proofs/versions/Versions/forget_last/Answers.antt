-- The last version of the later part is the last of all.
use Rattle.std.proofs.Common.{◌≡◌, ◌<◌, ◌-◌, length, ap, sym, subst, arith}
use Rattle.std.proofs.lemmas.Grind.{common_steps}
use Rattle.go_versions.specs.History.{IsRising}
use Rattle.go_versions.proofs.HistoryLemmas.{IsRising-take, forgotten_later}
use Rattle.go_versions.proofs.versions.Versions.forget_last.Goals as goal

pub invariant_of-self-else-is_empty : goal.invariant_of-self-else-is_empty
invariant_of-self-else-is_empty c =
    let some : 0 < length c.self.inside.noted.items = grind (arith, common_steps) in
    let counted : c.len-left.result - 1 ≡ length c.self.inside.noted.items - 1 = grind (arith, common_steps) in
    let left = forgotten_later c.self.inside.early c.self.inside.noted.items c.truncate.new.self.items c.args.self.now.versions (c.len-left.result - 1)
    (ap (λ v. v.versions) c.self.view_is) some counted c.truncate.ensures.items in
    subst IsRising (sym left) (IsRising-take c.args.self.now.versions (length c.args.self.now.versions - 1)
    (subst IsRising (ap (λ v. v.versions) c.self.view_is) c.self.invariant))

pub returns-else-is_empty-clause-versions : goal.returns-else-is_empty-clause-versions
returns-else-is_empty-clause-versions c =
    let some : 0 < length c.self.inside.noted.items = grind (arith, common_steps) in
    let counted : c.len-left.result - 1 ≡ length c.self.inside.noted.items - 1 = grind (arith, common_steps) in
    forgotten_later c.self.inside.early c.self.inside.noted.items c.truncate.new.self.items c.args.self.now.versions (c.len-left.result - 1)
    (ap (λ v. v.versions) c.self.view_is) some counted c.truncate.ensures.items
