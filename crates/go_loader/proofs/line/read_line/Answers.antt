-- A line is read as its first words are.
use Rattle.std.proofs.Common.{ap, ◌∙◌, List, ℕ}
use Rattle.go_text.specs.Word.{words}
use Rattle.go_loader.specs.TextFile.{words_read}
use Rattle.go_loader.proofs.TextLemmas.{words_read-take}
use Rattle.go_loader.proofs.line.read_line.Goals as goal

pub returns-clause-exact : goal.returns-clause-exact
returns-clause-exact c =
    c.read_words.ensures.exact
    ∙ ap (λ (ws : List (List ℕ)). words_read c.args.v ws) (c.as_slice.ensures ∙ c.of.ensures)
    ∙ words_read-take c.args.v (words c.args.line.now)
