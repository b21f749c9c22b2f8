-- A turn of the loop of `gather`, by the lemmas.
use Rattle.std.proofs.Common.{◌≡◌, ◌<◌, get_or, arith, ◌∙◌}
use Rattle.std.proofs.lemmas.Bool.Decides.{nat_tests}
use Rattle.go_net.specs.Tally.{count_at, without_counted}
use Rattle.go_net.proofs.TallyLemmas.{kept_on, left_out}
use Rattle.go_net.proofs.count.gather.Goals as goal
use Rattle.go_net.proofs.count.gather.Goals.{then-not-count_down, else-not-count_down}

pub loop-i-preserved : goal.loop-i-preserved
loop-i-preserved c = elim c.if-not-count_down.branch [
  | then-not-count_down w ↦
      let none : count_at c.args.targets.now c.loop-i.counts (get_or c.loop-i.list c.loop-i.i 0) ≡ 0 = let any = c.count_down.ensures.any in let false_is =
      w.if-not-count_down.true in grind (arith, nat_tests, any, false_is) in
      record {
        behind = omega arith;
        list = c.if-not-count_down.auto.list ∙ c.loop-i.invariant.list;
        counts = c.count_down.auto.counts ∙ c.loop-i.invariant.counts;
        left = rw (w.list-is, w.kept-is) (kept_on (count_at c.args.targets.now c.loop-i.counts)
            (count_at c.args.targets.now c.count_down.new.counts) c.loop-i.list
            (without_counted (count_at c.args.targets.now c.args.counts.now) c.args.list.now) c.loop-i.kept c.loop-i.i c.loop-i.invariant.behind
            (omega arith) none c.count_down.ensures.after c.loop-i.invariant.left);
      }
  | else-not-count_down w ↦
      let some : 0 < count_at c.args.targets.now c.loop-i.counts (get_or c.loop-i.list c.loop-i.i 0) = let any = c.count_down.ensures.any in let true_is =
      w.if-not-count_down.false in grind (arith, nat_tests, any, true_is) in
      record {
        behind = omega arith;
        list = c.if-not-count_down.auto.list ∙ c.loop-i.invariant.list;
        counts = c.count_down.auto.counts ∙ c.loop-i.invariant.counts;
        left = rw (w.list-is, w.kept-is) (left_out (count_at c.args.targets.now c.loop-i.counts)
            (count_at c.args.targets.now c.count_down.new.counts) c.loop-i.list
            (without_counted (count_at c.args.targets.now c.args.counts.now) c.args.list.now) c.loop-i.kept c.loop-i.i
            (omega arith) some c.count_down.ensures.after c.loop-i.invariant.left);
      }
]
