-- The new version is the last, wherever it lies, and tells the count from its front on.
use Rattle.std.proofs.Common.{◌≡◌, ◌++◌, length, ap, subst, arith}
use Rattle.std.proofs.lemmas.Grind.{common_steps}
use Rattle.go_versions.specs.History.{IsRising}
use Rattle.go_versions.proofs.HistoryLemmas.{pushed_early, pushed_later, rises_pushed, count_at-pushed}
use Rattle.go_versions.proofs.versions.Versions.note.Goals as goal

pub invariant_of-self : goal.invariant_of-self
invariant_of-self c =
    let none : length c.self.inside.noted.items ≡ 0 = grind (arith, common_steps) in
    let all = pushed_early c.self.inside.early c.self.inside.noted.items c.args.self.now.versions c.push.new.self c.new-version.result
    (ap (λ v. v.versions) c.self.view_is) none c.push.ensures in
    rises_pushed c.args.self.now.versions (c.push.new.self ++ c.self.inside.noted.items) c.new-version.result c.args.front c.args.count
    c.new-version.ensures all (subst IsRising (ap (λ v. v.versions) c.self.view_is) c.self.invariant) c.requires.later c.requires.no_less

pub invariant_of-self-else-is_empty : goal.invariant_of-self-else-is_empty
invariant_of-self-else-is_empty c =
    let all = pushed_later c.self.inside.early c.self.inside.noted.items c.args.self.now.versions c.push_reserved.new.self.items c.new-version.result
    (ap (λ v. v.versions) c.self.view_is) c.push_reserved.ensures.items in
    rises_pushed c.args.self.now.versions (c.self.inside.early ++ c.push_reserved.new.self.items) c.new-version.result c.args.front c.args.count
    c.new-version.ensures all (subst IsRising (ap (λ v. v.versions) c.self.view_is) c.self.invariant) c.requires.later c.requires.no_less

pub returns-then-len-lt-FEW-clause-at : goal.returns-then-len-lt-FEW-clause-at
returns-then-len-lt-FEW-clause-at c f =
    let none : length c.self.inside.noted.items ≡ 0 = grind (arith, common_steps) in
    let all = pushed_early c.self.inside.early c.self.inside.noted.items c.args.self.now.versions c.push.new.self c.new-version.result
    (ap (λ v. v.versions) c.self.view_is) none c.push.ensures in
    count_at-pushed c.args.self.now.versions (c.push.new.self ++ c.self.inside.noted.items) c.new-version.result c.args.front c.args.count f
    c.new-version.ensures all

pub returns-else-is_empty-clause-at : goal.returns-else-is_empty-clause-at
returns-else-is_empty-clause-at c f =
    let all = pushed_later c.self.inside.early c.self.inside.noted.items c.args.self.now.versions c.push_reserved.new.self.items c.new-version.result
    (ap (λ v. v.versions) c.self.view_is) c.push_reserved.ensures.items in
    count_at-pushed c.args.self.now.versions (c.self.inside.early ++ c.push_reserved.new.self.items) c.new-version.result c.args.front c.args.count f
    c.new-version.ensures all
