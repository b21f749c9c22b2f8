-- One vertex more.
use Rattle.std.proofs.Common.{◌≡◌, ◌∙◌, ◌++◌, ◌∷◌, [], ℕ, List, Vec, Global, get_or, set, sym, ap, subst, true, false, arith}
use Rattle.std.specs.Prelude.{Option, Some, None, is_none}
use Rattle.go_kernels.specs.Steps.{KeepsFront}
use Rattle.go_kernels.proofs.FrontLemmas.{KeepsFront-more, marked-none, marked-some, marked-more, none_told}
use Rattle.go_kernels.proofs.search.mark_all.Goals.{then-is_none+in_ok-push, else-is_none}
use Rattle.go_kernels.proofs.search.mark_all.Goals as goal

pub loop-v-preserved : goal.loop-v-preserved
loop-v-preserved c =
    let level = c.args.level in
    let from = c.args.levels.now in
    let levels = c.loop-v.levels in
    let list = c.args.list.now in
    let i = c.loop-v.v-index in
    let v : ℕ = get_or list i 0 in
    let begun = c.args.next.now.items in
    let tells : is_none (get_or levels v None) ≡ c.is_none.result = none_told (get_or levels v None) c.is_none.result c.is_none.ensures in
    elim c.if-is_none.branch [
      | then-is_none+in_ok-push w ↦
          let is : is_none (get_or levels v None) ≡ true = tells ∙ w.if-is_none.true in
          let items : c.if-is_none.next.items ≡ c.loop-v.next.items ++ v ∷ [] = ap (λ (n : Vec ℕ Global). n.items) w.next-is ∙ w.in_ok-push.ensures.items in
          let set_there : c.if-is_none.levels ≡ set levels v (Some level) = w.levels-is in
          let more = KeepsFront-more level from levels c.loop-v.next.items begun v (omega arith) is c.loop-v.invariant.front in
          record {
            marked = marked-more level from levels c.if-is_none.levels list i c.loop-v-test.true c.loop-v.invariant.marked
                (set_there ∙ sym (marked-none level levels v is));
            front = subst (λ (l : List (Option ℕ)). KeepsFront level from l begun c.if-is_none.next.items) (sym set_there)
                (subst (λ (n : List ℕ). KeepsFront level from (set levels v (Some level)) begun n) (sym items) more);
          }
      | else-is_none w ↦
          let is : is_none (get_or levels v None) ≡ false = tells ∙ w.if-is_none.false in
          let items : c.if-is_none.next.items ≡ c.loop-v.next.items = ap (λ (n : Vec ℕ Global). n.items) w.next-is in
          record {
            marked = marked-more level from levels c.if-is_none.levels list i c.loop-v-test.true c.loop-v.invariant.marked
                (w.levels-is ∙ sym (marked-some level levels v is));
            front = subst (λ (l : List (Option ℕ)). KeepsFront level from l begun c.if-is_none.next.items) (sym w.levels-is)
                (subst (λ (n : List ℕ). KeepsFront level from levels begun n) (sym items) c.loop-v.invariant.front);
          }
    ]
