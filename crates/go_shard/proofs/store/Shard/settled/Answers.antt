-- The greatest kept front up to the limit and the pins, by the lemmas.
use Rattle.std.proofs.Common.{◌≤◌, ◌∙◌, List, ℕ, min, max, ap, sym, subst}
use Rattle.go_word.specs.declared.pin.Pin.{Pin}
use Rattle.go_shard.specs.contracts.store.Shard.{the_view}
use Rattle.go_shard.specs.declared.fronts.FrontRange.{FrontRange}
use Rattle.go_shard.specs.Fronts.{IsLeast, IsGreatest}
use Rattle.go_shard.specs.ShardState.{ShardState}
use Rattle.go_shard.specs.Stands.{IsSettled}
use Rattle.go_shard.proofs.FrontLemmas.{least_uncut, settled_early, settled_late}
use Rattle.go_shard.proofs.store.Shard.settled.Goals as goal

pub greatest_up_to-greatest-requires : goal.greatest_up_to-greatest-requires
greatest_up_to-greatest-requires c =
    let old : ShardState = the_view c.self.inside in
    let from : old.cut ≤ c.args.limit = subst (λ (s : ShardState). s.cut ≤ c.args.limit) (sym c.self.view_is) c.requires in
    least_uncut old c.args.limit c.least_of-bound.result c.self.invariant.0 from
    (subst (λ (l : List Pin). IsLeast l c.args.limit c.least_of-bound.result) c.deref.ensures.value c.least_of-bound.ensures)

pub returns-then-self-bound : goal.returns-then-self-bound
returns-then-self-bound c =
    let old : ShardState = the_view c.self.inside in
    let bound = c.least_of-bound.result in
    let from : old.cut ≤ c.args.limit = subst (λ (s : ShardState). s.cut ≤ c.args.limit) (sym c.self.view_is) c.requires in
    let least = subst (λ (l : List Pin). IsLeast l c.args.limit bound) c.deref.ensures.value c.least_of-bound.ensures in
    let greatest = subst (λ (l : List FrontRange). IsGreatest l c.self.inside.cut bound
    c.greatest_up_to-greatest.result) c.deref-2.ensures.value c.greatest_up_to-greatest.ensures in
    let is = settled_late old c.args.limit bound c.greatest_up_to-greatest.result c.self.invariant.0 from least greatest c.if-self-bound.true in
    subst (λ (n : ℕ). IsSettled c.args.self.now c.args.limit n) (sym (c.max.ensures ∙ ap (max c.greatest_up_to-greatest.result) c.min.ensures))
    (subst (λ (s : ShardState). IsSettled s c.args.limit (max c.greatest_up_to-greatest.result (min bound c.self.inside.front))) c.self.view_is is)

pub returns-else-self-bound : goal.returns-else-self-bound
returns-else-self-bound c =
    let old : ShardState = the_view c.self.inside in
    let bound = c.least_of-bound.result in
    let from : old.cut ≤ c.args.limit = subst (λ (s : ShardState). s.cut ≤ c.args.limit) (sym c.self.view_is) c.requires in
    let least = subst (λ (l : List Pin). IsLeast l c.args.limit bound) c.deref.ensures.value c.least_of-bound.ensures in
    let greatest = subst (λ (l : List FrontRange). IsGreatest l c.self.inside.cut bound
    c.greatest_up_to-greatest.result) c.deref-2.ensures.value c.greatest_up_to-greatest.ensures in
    subst (λ (s : ShardState). IsSettled s c.args.limit c.greatest_up_to-greatest.result) c.self.view_is
    (settled_early old c.args.limit bound c.greatest_up_to-greatest.result c.self.invariant.0 from least greatest c.if-self-bound.false)
