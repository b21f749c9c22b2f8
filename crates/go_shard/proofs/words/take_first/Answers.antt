-- What is taken in of a slice comes behind the words before it, and so does all that is left.
use Rattle.std.proofs.Common.{◌+◌, arith, ◌∙◌}
use Rattle.std.proofs.lemmas.Result.{on_ok_weaker}
use Rattle.go_shard.proofs.WordsLemmas.{folded_slice, folded_rest}
use Rattle.go_shard.proofs.words.take_first.Goals as goal

pub returns-then-taken-words : goal.returns-then-taken-words
returns-then-taken-words c =
    let mid = folded_slice c.loop-place.place c.in_ok-taken.taken c.args.chain.now.words _ c.args.list.now.items _ _ c.slice-words.ensures.stand
    c.in_ok-taken.ensures.within c.loop-place.invariant.list c.in_ok-taken.ensures.taken in
    on_ok_weaker c.take_in.result (λ on. folded_rest (c.loop-place.place + c.in_ok-taken.taken) c.args.count c.args.chain.now.words _
    c.args.list.now.items _ _ (omega (arith, c.in_ok-taken.ensures.within, c.slice-words.ensures.within))
    (c.deref.ensures.value ∙ c.in_ok-rest.ensures) mid on) c.take_in.ensures.exact

pub loop-place-preserved : goal.loop-place-preserved
loop-place-preserved c = record {
  within = omega (arith, c.in_ok-taken.ensures.within, c.slice-words.ensures.within);
  list = folded_slice c.loop-place.place c.in_ok-taken.taken c.args.chain.now.words _ c.args.list.now.items _ _ c.slice-words.ensures.stand
      c.in_ok-taken.ensures.within c.loop-place.invariant.list c.in_ok-taken.ensures.taken;
}
