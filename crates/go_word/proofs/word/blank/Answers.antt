-- `blank`: its word is the one of the definition.
use Rattle.std.proofs.Common.{arith, ◌∙◌, ap}
use Rattle.go_word.specs.Word.{blank_word, is_matched}
use Rattle.go_word.proofs.WordLaws.{is_matched-blank_word}
use Rattle.go_word.proofs.word.blank.Goals as goal

pub returns-clause-exact : goal.returns-clause-exact
unfolding blank_word
returns-clause-exact c = grind arith

pub returns-clause-unmatched : goal.returns-clause-unmatched
returns-clause-unmatched c = ap (is_matched c.args.n c.args.p) (returns-clause-exact c) ∙ is_matched-blank_word c.args.n c.args.p
