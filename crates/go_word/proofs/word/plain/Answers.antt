-- `plain`: its word is the one of the definition, and the laws of words hold of it.
use Rattle.std.proofs.Common.{arith, ◌∙◌, ap}
use Rattle.std.proofs.lemmas.Bool.Decides.{nat_tests}
use Rattle.go_word.specs.Word.{plain_word, decode}
use Rattle.go_word.proofs.WordLaws.{decode-plain_word, IsPlain-plain_word}
use Rattle.go_word.proofs.word.plain.Goals as goal

pub returns-clause-exact : goal.returns-clause-exact
unfolding plain_word
returns-clause-exact c = grind (arith, nat_tests)

pub returns-clause-read_back : goal.returns-clause-read_back
returns-clause-read_back c = ap decode (returns-clause-exact c) ∙ decode-plain_word c.args.e c.requires

pub returns-clause-plain : goal.returns-clause-plain
returns-clause-plain c = λ v within. rw (returns-clause-exact c) (IsPlain-plain_word v c.args.e c.requires within)
