-- The search begins at the root, goes on front by front, and ends where a front is empty.
use Rattle.std.proofs.Common.{◌≡◌, ◌∙◌, ◌+◌, ◌<◌, ◌≤◌, ℕ, List, refl, length, arith, sym, subst, ap, Vec, Global}
use Rattle.std.specs.Prelude.{All}
use Rattle.go_word.specs.Log.{IsWithin}
use Rattle.go_model.specs.Search.{spread, unmarked, IsFront}
use Rattle.go_model.proofs.LevelLemmas.{AreLevelsTo, AreLevelsTo-root, AreLevelsTo-next, AreLevels-closed}
use Rattle.go_model.specs.Graph.{Shown}
use Rattle.go_kernels.proofs.FrontLemmas.{rooted-front, IsFront-sorted, sorted-below, next-front, some-vertex, no-vertex, empty-front}
use Rattle.go_kernels.proofs.KeepsLemmas.{Keeps-same, Keeps-onwards}
use Rattle.go_kernels.proofs.search.search.Goals as goal

pub loop-level-init : goal.loop-level-init
loop-level-init g c =
    let graph = g.G.Graph in
    let levels = c.args.levels.now in
    let log = (graph.shows c.args.g.now).log in
    let size = length levels in
    let root : c.args.r < size = subst (λ (n : ℕ). c.args.r < n) (sym c.requires.long) c.requires.root in
    let begun = rooted-front log size c.args.r levels c.args.front.now.items root refl c.requires.rooted c.requires.front in
    record {
      keeps = Keeps-same graph.shows graph.ready graph.became graph.same c.args.g.now c.requires.ready;
      so_far = AreLevelsTo-root log size c.args.r levels root c.requires.rooted;
      front = begun.0;
      left = begun.1;
    }

pub spread_front-requires-clause-there : goal.spread_front-requires-clause-there
spread_front-requires-clause-there g c = sorted-below c.loop-level.levels c.loop-level.level c.loop-level.front.items c.sort_unstable.new.self.items
    c.deref.result.now c.sort_unstable.ensures.permutation c.deref.ensures.value c.loop-level.invariant.front

pub loop-level-preserved : goal.loop-level-preserved
loop-level-preserved g c =
    let graph = g.G.Graph in
    let shown : Shown = graph.shows c.args.g.now in
    let log = shown.log in
    let size = length c.args.levels.now in
    let old = c.loop-level.levels in
    let new = c.spread_front.new.levels in
    let level = c.loop-level.level in
    let front = c.loop-level.front.items in
    let sorted = c.sort_unstable.new.self.items in
    let next = c.spread_front.new.next.items in
    let so_far = c.loop-level.invariant.so_far in
    let same : graph.shows c.loop-level.g ≡ shown = c.loop-level.invariant.keeps.same_shown in
    let ids : All (IsWithin size) log = subst (λ (n : ℕ). All (IsWithin n) log) (sym c.requires.long) c.requires.drawn.ids in
    let root : c.args.r < size = subst (λ (n : ℕ). c.args.r < n) (sym c.requires.long) c.requires.root in
    let value : c.deref.result.now ≡ sorted = c.deref.ensures.value in
    let did : new ≡ spread (graph.shows c.loop-level.g).log (level + 1) old c.deref.result.now = c.in_ok-spread_front.ensures.spread in
    let here : spread (graph.shows c.loop-level.g).log (level + 1) old c.deref.result.now ≡ spread log (level + 1) old c.deref.result.now =
    ap (λ (s : Shown). spread s.log (level + 1) old c.deref.result.now) same in
    let is : new ≡ spread log (level + 1) old sorted = did ∙ (here ∙ ap (spread log (level + 1) old) value) in
    let at = IsFront-sorted old level front sorted c.sort_unstable.ensures.permutation c.loop-level.invariant.front in
    let long = c.loop-level.front.ok.0 in
    let nonempty = some-vertex _ c.loop-level-test.ensures in
    let some : 0 < length front = omega (arith, long, nonempty) in
    let ends = next-front log (length old) c.args.r level (length front) old new c.clear.new.self.items next so_far c.clear.ensures.items
    c.in_ok-spread_front.ensures.front some c.loop-level.invariant.left c.spread_front.auto.levels in
    let swapped : c.swap.new.x.items ≡ next = ap (λ (n : Vec ℕ Global). n.items) c.swap.ensures.x_after in
    record {
      keeps = Keeps-onwards graph.shows graph.ready graph.became graph.onwards c.args.g.now c.loop-level.g c.spread_front.new.g
          c.loop-level.invariant.keeps c.in_ok-spread_front.ensures.keeps;
      so_far = AreLevelsTo-next log size c.args.r level old new sorted ids root c.loop-level.auto.levels c.spread_front.auto.levels is at so_far;
      front = subst (λ (f : List ℕ). IsFront new (level + 1) f) (sym swapped) ends.0;
      left = subst (λ (f : List ℕ). level + 1 + unmarked new + length f ≤ length new) (sym swapped) ends.1;
    }

pub returns-clause-exact : goal.returns-clause-exact
returns-clause-exact g c =
    let shown : Shown = g.G.Graph.shows c.args.g.now in
    let levels = c.loop-level.levels in
    let level = c.loop-level.level in
    let long : length levels ≡ shown.size = c.loop-level.auto.levels ∙ c.requires.long in
    let so_far = subst (λ (n : ℕ). AreLevelsTo shown.log n c.args.r level levels) long c.loop-level.invariant.so_far in
    let empty = no-vertex _ c.loop-level-test.ensures in
    let ok = c.loop-level.front.ok.0 in
    let none : length c.loop-level.front.items ≡ 0 = omega (arith, ok, empty) in
    AreLevels-closed shown.log shown.size c.args.r level levels c.requires.drawn.ids c.requires.root so_far
    (λ v within. empty-front levels level c.loop-level.front.items c.loop-level.invariant.front none v (subst (λ (n : ℕ). v < n) (sym long) within))
