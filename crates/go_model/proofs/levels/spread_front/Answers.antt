-- The neighbours are vertices.
use Rattle.std.proofs.Common.{length, subst, sym, List, ℕ, ◌<◌, ◌∙◌}
use Rattle.std.specs.Prelude.{All}
use Rattle.go_model.proofs.WithinLemmas.{neighbours-below}
use Rattle.go_model.proofs.levels.spread_front.Goals as goal

pub mark_all-more-requires : goal.mark_all-more-requires
mark_all-more-requires c =
    let size = length c.args.levels.now in
    let below = neighbours-below size c.args.edges.now _ c.requires in
    let list : All (λ v. v < size) c.deref.result.now = subst (λ (l : List ℕ). All (λ v. v < size) l)
    (sym (c.deref.ensures.value ∙ c.in_ok-neighbours_of.ensures)) below in
    subst (λ (n : ℕ). All (λ v. v < n) c.deref.result.now) (sym c.loop-v.auto.levels) list
