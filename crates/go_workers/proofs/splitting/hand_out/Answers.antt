-- The loop of `hand_out`.
use Rattle.std.proofs.Common.{◌≡◌, [], ◌++◌, map, ap, ◌∙◌, arith, subst, append-nil, sym}
use Rattle.std.specs.Vec.Iter.{into_iter_items}
use Rattle.std.proofs.lemmas.List.{nil_from_length}
use Rattle.go_shard.proofs.SplitLemmas.{items_of}
use Rattle.go_workers.proofs.Halves.{handed_next}
use Rattle.go_workers.proofs.splitting.hand_out.Goals as goal

pub loop-list-preserved : goal.loop-list-preserved
loop-list-preserved c =
    let all = map items_of c.args.lists.items in
    let out = c.loop-list.out.items in
    let taken = c.in-Some.ensures.steps.0 in (
      (tt, tt),
      handed_next items_of out c.push.new.self.items c.in-Some.list (into_iter_items c.next.new.self) c.from_vec.result all
          (subst (λ s. out ++ map items_of s ≡ all) taken c.loop-list.invariant.1) c.in_ok-push.ensures.items c.from_vec.ensures,
    )

pub returns : goal.returns
returns c =
    let rest = into_iter_items c.loop-list.list-iterator in
    let out = c.loop-list.out.items in
    let none : rest ≡ [] = nil_from_length rest (omega (arith, c.in-None.ensures.steps.0, c.loop-list.list-iterator.rest.ok)) in
    sym (append-nil out) ∙ sym (ap (λ s. out ++ map items_of s) none) ∙ c.loop-list.invariant.1
