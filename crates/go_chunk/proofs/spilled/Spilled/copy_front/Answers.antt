-- The front is that of the second chunk and then that of the pieces.
use Rattle.std.proofs.Common.{◌≡◌, ◌++◌, ◌-◌, min, take, length, ap, ◌∙◌, arith}
use Rattle.std.proofs.lemmas.Grind.{common_steps}
use Rattle.std.proofs.lemmas.Result.{on_ok_weaker}
use Rattle.go_chunk.specs.Pieces.{words_of_all}
use Rattle.go_chunk.proofs.CopyLemmas.{copied-both, begins-twice}
use Rattle.go_chunk.proofs.spilled.Spilled.copy_front.Goals as goal

pub returns-clause-ok : goal.returns-clause-ok
returns-clause-ok c =
    let counted : c.min-in_second.result ≡ min c.args.k (length c.self.inside.second) = grind (arith, common_steps) in
    let one : c.extend_from_slice.new.self.items ≡ c.args.out.now.items ++ take c.min-in_second.result c.self.inside.second = grind (arith, common_steps) in
    let both = copied-both c.args.out.now.items c.extend_from_slice.new.self.items c.copy_words.new.out.items c.self.inside.second
    (words_of_all c.self.inside.later.items) c.min-in_second.result c.args.k counted one in
    on_ok_weaker c.copy_words.result (λ two. both (two ∙ ap (λ pieces. c.extend_from_slice.new.self.items
    ++ take (c.args.k - c.min-in_second.result) (words_of_all pieces)) c.deref.ensures.value)
    ∙ ap (λ l. c.args.out.now.items ++ take c.args.k l) c.self.view_is) c.copy_words.ensures.ok

pub returns-clause-kept : goal.returns-clause-kept
returns-clause-kept c =
    let one : take (length c.args.out.now.items) c.extend_from_slice.new.self.items ≡ c.args.out.now.items = grind (arith, common_steps) in
    begins-twice c.args.out.now.items c.extend_from_slice.new.self.items c.copy_words.new.out.items one c.copy_words.ensures.kept
