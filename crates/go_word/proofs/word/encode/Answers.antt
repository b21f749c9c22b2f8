-- `encode`: its word is the one of the definition, and the laws of words hold of it.
use Rattle.std.proofs.Common.{◌+◌, arith, ◌∙◌, ap}
use Rattle.go_word.specs.Word.{word, decode, is_matched}
use Rattle.go_word.proofs.WordLaws.{word-lt, decode-word, is_matched-word, is_matched-word_before}
use Rattle.go_word.proofs.word.encode.Goals as goal

pub returns-clause-exact : goal.returns-clause-exact
unfolding word
returns-clause-exact c = grind arith

pub overflow_add-result : goal.overflow_add-result
unfolding word
overflow_add-result c = omega (arith, word-lt c.args.n c.args.p c.args.e c.requires.storable)

pub returns-clause-read_back : goal.returns-clause-read_back
returns-clause-read_back c = ap decode (returns-clause-exact c) ∙ decode-word c.args.n c.args.p c.args.e c.requires.storable

pub returns-clause-of_this_lap : goal.returns-clause-of_this_lap
returns-clause-of_this_lap c = ap (is_matched c.args.n c.args.p) (returns-clause-exact c) ∙ is_matched-word c.args.n c.args.p c.args.e c.requires.storable

pub returns-clause-not_of_the_next : goal.returns-clause-not_of_the_next
returns-clause-not_of_the_next c =
    ap (is_matched c.args.n (c.args.p + c.args.n)) (returns-clause-exact c)
    ∙ is_matched-word_before c.args.n c.args.p c.args.e c.requires.slots c.requires.storable
