-- The neighbours are vertices.
use Rattle.std.proofs.Common.{◌≡◌, ◌∙◌, ℕ, List, ◌<◌, length, get_or, subst, sym, ap}
use Rattle.std.specs.Prelude.{All}
use Rattle.go_word.specs.Log.{IsWithin}
use Rattle.go_word.specs.Neighbours.{neighbours}
use Rattle.go_model.specs.Graph.{Shown}
use Rattle.go_model.proofs.WithinLemmas.{neighbours-below}
use Rattle.go_kernels.proofs.search.spread_front.Goals as goal

pub mark_all-requires : goal.mark_all-requires
mark_all-requires g c =
    let graph = g.G.Graph in
    let shown = graph.shows c.args.g.now in
    let size = length c.args.levels.now in
    let same : graph.shows c.loop-v.g ≡ shown = c.loop-v.invariant.keeps.same_shown in
    let ids : All (IsWithin size) shown.log = subst (λ (n : ℕ). All (IsWithin n) shown.log) (sym c.requires.long) c.requires.drawn.ids in
    let v : ℕ = get_or c.args.front.now c.loop-v.v-index 0 in
    let below = neighbours-below size shown.log v ids in
    let listed : c.neighbours.new.out.items ≡ neighbours (graph.shows c.loop-v.g).log v = c.in_ok-neighbours.ensures.listed in
    let there : neighbours (graph.shows c.loop-v.g).log v ≡ neighbours shown.log v = ap (λ (s : Shown). neighbours s.log v) same in
    let value : c.deref.result.now ≡ c.neighbours.new.out.items = c.deref.ensures.value in
    let list : All (λ v. v < size) c.deref.result.now = subst (λ (l : List ℕ). All (λ v. v < size) l) (sym (value ∙ (listed ∙ there))) below in
    subst (λ (n : ℕ). All (λ v. v < n) c.deref.result.now) (sym c.loop-v.auto.levels) list
