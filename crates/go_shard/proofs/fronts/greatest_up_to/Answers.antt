-- One range more, by the lemma.
use Rattle.std.proofs.Common.{min, inl, inr, ap, arith, ◌∙◌}
use Rattle.go_shard.specs.declared.fronts.FrontRange.{FrontRange}
use Rattle.go_shard.proofs.FrontLemmas.{greatest_none, greatest_step}
use Rattle.go_shard.proofs.fronts.greatest_up_to.Goals as goal
use Rattle.go_shard.proofs.fronts.greatest_up_to.Goals.{then-from-end, else-from-end}

pub loop-range-init : goal.loop-range-init
loop-range-init c = greatest_none c.args.least c.args.bound c.requires

pub loop-range-preserved : goal.loop-range-preserved
loop-range-preserved c =
    let none : FrontRange = record { first = 0; last = 0 } in
    let step = greatest_step c.args.ranges.now c.loop-range.range-index none c.args.least c.args.bound
    c.loop-range.greatest c.min-end.result c.if-from-end.greatest c.loop-range-test.true
    c.loop-range.invariant (c.min-end.ensures ∙ ap (min c.args.bound) c.from.ensures) in
    elim c.if-from-end.branch [
      | then-from-end w ↦ step (inl (omega (arith, c.from-in-loop-range.ensures, w.if-from-end.true), w.greatest-is ∙ w.max-greatest.ensures))
      | else-from-end w ↦ step (inr (omega (arith, c.from-in-loop-range.ensures, w.if-from-end.false), w.greatest-is))
    ]
