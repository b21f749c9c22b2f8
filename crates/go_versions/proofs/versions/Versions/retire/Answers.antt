-- What is left are the versions from the last that reaches the front on, whichever part they lie in.
use Rattle.std.proofs.Common.{◌++◌, min, drop, sym, ap, subst, refl, ◌∙◌}
use Rattle.go_versions.specs.History.{IsRising}
use Rattle.go_versions.proofs.HistoryLemmas.{IsRising-drop, dropped_both, has_retired}
use Rattle.go_versions.proofs.versions.Versions.retire.Goals as goal

pub invariant_of-self : goal.invariant_of-self
invariant_of-self c =
    let left = dropped_both c.self.inside.early c.self.inside.noted.items c.drop_front.new.self c.drop_front-2.new.noted.items c.args.self.now.versions
    c.saturating_sub-given_up.result c.min-early.result (ap (λ v. v.versions) c.self.view_is) (c.min-early.ensures
    ∙ ap (min c.saturating_sub-given_up.result) c.len.ensures.count) c.drop_front.ensures c.drop_front-2.ensures.items in
    subst IsRising (sym left) (IsRising-drop c.args.self.now.versions c.saturating_sub-given_up.result
    (subst IsRising (ap (λ v. v.versions) c.self.view_is) c.self.invariant))

pub returns-clause-kept : goal.returns-clause-kept
returns-clause-kept c =
    let left = dropped_both c.self.inside.early c.self.inside.noted.items c.drop_front.new.self c.drop_front-2.new.noted.items c.args.self.now.versions
    c.saturating_sub-given_up.result c.min-early.result (ap (λ v. v.versions) c.self.view_is) (c.min-early.ensures
    ∙ ap (min c.saturating_sub-given_up.result) c.len.ensures.count) c.drop_front.ensures c.drop_front-2.ensures.items in
    let retired = has_retired c.args.front c.args.self.now.versions c.args.self.now.versions (c.drop_front.new.self
    ++ c.drop_front-2.new.noted.items) c.reached.result refl c.reached.ensures.bound c.reached.ensures.parts (left
    ∙ ap (λ k. drop k c.args.self.now.versions) c.saturating_sub-given_up.ensures) in
    retired.kept

pub returns-clause-few : goal.returns-clause-few
returns-clause-few c =
    let left = dropped_both c.self.inside.early c.self.inside.noted.items c.drop_front.new.self c.drop_front-2.new.noted.items c.args.self.now.versions
    c.saturating_sub-given_up.result c.min-early.result (ap (λ v. v.versions) c.self.view_is) (c.min-early.ensures
    ∙ ap (min c.saturating_sub-given_up.result) c.len.ensures.count) c.drop_front.ensures c.drop_front-2.ensures.items in
    let retired = has_retired c.args.front c.args.self.now.versions c.args.self.now.versions (c.drop_front.new.self
    ++ c.drop_front-2.new.noted.items) c.reached.result refl c.reached.ensures.bound c.reached.ensures.parts (left
    ∙ ap (λ k. drop k c.args.self.now.versions) c.saturating_sub-given_up.ensures) in
    retired.few

pub returns-clause-at : goal.returns-clause-at
returns-clause-at c f le =
    let left = dropped_both c.self.inside.early c.self.inside.noted.items c.drop_front.new.self c.drop_front-2.new.noted.items c.args.self.now.versions
    c.saturating_sub-given_up.result c.min-early.result (ap (λ v. v.versions) c.self.view_is) (c.min-early.ensures
    ∙ ap (min c.saturating_sub-given_up.result) c.len.ensures.count) c.drop_front.ensures c.drop_front-2.ensures.items in
    let retired = has_retired c.args.front c.args.self.now.versions c.args.self.now.versions (c.drop_front.new.self
    ++ c.drop_front-2.new.noted.items) c.reached.result refl c.reached.ensures.bound c.reached.ensures.parts (left
    ∙ ap (λ k. drop k c.args.self.now.versions) c.saturating_sub-given_up.ensures) in
    retired.at f le
