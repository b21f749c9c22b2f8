-- The search begins at the root, goes on level by level, and ends where no vertex is left that it hasn't spread.
use Rattle.std.proofs.Common.{◌≡◌, ◌+◌, ◌<◌, ℕ, length, arith, sym, ◌∙◌, subst, ap}
use Rattle.go_model.specs.Search.{spread}
use Rattle.go_model.proofs.LevelLemmas.{AreLevelsTo, AreLevelsTo-root, AreLevelsTo-next, AreLevels-closed, left-root, empty-next}
use Rattle.go_model.proofs.levels.search.Goals as goal

pub loop-more-init : goal.loop-more-init
loop-more-init c =
    let levels = c.args.levels.now in
    let left = left-root (length levels) c.args.r levels c.requires.root c.requires.rooted in
    record {
      so_far = AreLevelsTo-root c.args.edges.now (length levels) c.args.r levels c.requires.root c.requires.rooted;
      left = omega (arith, left);
      empty = λ e v within has. absurd (cc);
    }

pub loop-more-preserved : goal.loop-more-preserved
loop-more-preserved c =
    let log = c.args.edges.now in
    let old = c.loop-more.levels in
    let new = c.spread_front.new.levels in
    let level = c.loop-more.level in
    let front = c.collect_front.new.front.items in
    let is : new ≡ spread log (level + 1) old front = c.in_ok-more.ensures.spread ∙ ap (spread log (level + 1) old) c.deref.ensures.value in
    record {
      so_far = AreLevelsTo-next log (length c.args.levels.now) c.args.r level old new front c.requires.ids c.requires.root c.loop-more.auto.levels
          c.spread_front.auto.levels is c.in_ok-collect_front.ensures c.loop-more.invariant.so_far;
      left = let counted = c.in_ok-more.ensures.counted in let was = rw c.loop-more-test.true at c.loop-more.invariant.left in omega arith;
      empty = λ none v within. empty-next log (length old) c.args.r level old new c.loop-more.invariant.so_far (c.in_ok-more.ensures.unless none) v;
    }

pub returns : goal.returns
returns c =
    let log = c.args.edges.now in
    let levels = c.loop-more.levels in
    let size = length c.args.levels.now in
    let so_far = subst (λ (n : ℕ). AreLevelsTo log n c.args.r c.loop-more.level levels) c.loop-more.auto.levels c.loop-more.invariant.so_far in
    AreLevels-closed log size c.args.r c.loop-more.level levels c.requires.ids c.requires.root so_far
    (λ v within. c.loop-more.invariant.empty c.loop-more-test.false v (subst (λ (n : ℕ). v < n) (sym c.loop-more.auto.levels) within))
