-- Each step keeps one more word.
use Rattle.std.proofs.Common.{◌≡◌, ◌∷◌, ◌-◌, List, ℕ, length-set, take, drop, arith, sym, ap, ◌∙◌, ◌++◌}
use Rattle.go_text.specs.Word.{words}
use Rattle.go_text.specs.Texts.{texts}
use Rattle.go_text.proofs.FirstLemmas.{texts_more}
use Rattle.go_text.proofs.words.FirstWords.of.Goals as goal

pub loop-len-preserved : goal.loop-len-preserved
loop-len-preserved c =
    let first : words (drop c.loop-len.from c.args.line.now) ≡ take (c.in-Some.word.stop - c.in-Some.word.start)
    (drop c.in-Some.word.start c.args.line.now) ∷ words (drop c.in-Some.word.stop c.args.line.now) = c.in-Some.ensures.first in (
      c.in-Some.ensures.inside,
      rw length-set c.loop-len.invariant.1,
      texts_more c.loop-len.list c.loop-len.len _ (words (drop c.in-Some.word.stop c.args.line.now)) (omega arith) c.loop-len.invariant.1
          ∙ ap (λ (ws : List (List ℕ)). texts (take c.loop-len.len c.loop-len.list) ++ take (5 - c.loop-len.len) ws) (sym first)
          ∙ c.loop-len.invariant.2,
    )
