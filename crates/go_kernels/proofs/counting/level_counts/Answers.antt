-- What a search found is full.
use Rattle.std.proofs.Common.{List, ℕ, length, subst, sym, ap, ◌∙◌, ◌<◌, ◌^◌, arith}
use Rattle.std.specs.Prelude.{Option}
use Rattle.go_model.specs.Levels.{AreLevels}
use Rattle.go_model.specs.Counts.{IsFull}
use Rattle.go_model.proofs.CountLemmas.{AreLevels-full}
use Rattle.go_kernels.proofs.counting.level_counts.Goals as goal

pub count-requires-clause-few : goal.count-requires-clause-few
count-requires-clause-few g c =
    let long = c.in_ok-find_levels.ensures.exact.all in
    let size = c.vertices-vertices.ensures.size in
    let fits = c.vertices-vertices.type_inv in
    let here = ap (λ (l : List (Option ℕ)). length l) c.deref.ensures.value in
    omega arith

pub count-requires-clause-full : goal.count-requires-clause-full
count-requires-clause-full g c =
    let shown = g.G.Graph.shows c.args.g.now in
    subst (λ (l : List (Option ℕ)). IsFull l) (sym c.deref.ensures.value)
    (AreLevels-full shown.log shown.size c.args.r c.find_levels.new.out.items c.vertices-vertices.ensures.drawn.ids c.requires.root
    c.in_ok-find_levels.ensures.exact)
