-- One vertex more.
use Rattle.std.proofs.Common.{◌+◌, List, ℕ, sym, ◌∙◌, subst, ap, Vec, Global}
use Rattle.go_model.specs.Search.{IsFrontBelow}
use Rattle.go_model.proofs.MarkLemmas.{IsFrontBelow-push, IsFrontBelow-skip, is_at, is_off}
use Rattle.go_model.proofs.levels.collect_front.Goals.{then-eq+in_ok-push, else-eq}
use Rattle.go_model.proofs.levels.collect_front.Goals as goal

pub loop-v-preserved : goal.loop-v-preserved
loop-v-preserved c =
    let levels = c.args.levels.now in
    let level = c.args.level in
    let v = c.loop-v.v in
    let so_far = c.loop-v.invariant in
    elim c.if-eq.branch [
      | then-eq+in_ok-push w ↦
          let at = is_at _ level (sym c.eq.ensures ∙ w.if-eq.true) in
          let pushed = IsFrontBelow-push levels level v c.loop-v.front.items so_far at in
          let items = ap (λ (f : Vec ℕ Global). f.items) w.front-is ∙ w.in_ok-push.ensures.items in
          subst (λ (f : List ℕ). IsFrontBelow levels level (v + 1) f) (sym items) pushed
      | else-eq w ↦
          let off = is_off _ level (sym c.eq.ensures ∙ w.if-eq.false) in
          let items = ap (λ (f : Vec ℕ Global). f.items) w.front-is in
          subst (λ (f : List ℕ). IsFrontBelow levels level (v + 1) f) (sym items) (IsFrontBelow-skip levels level v c.loop-v.front.items so_far off)
    ]
