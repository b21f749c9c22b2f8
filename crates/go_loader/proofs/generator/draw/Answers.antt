-- Two words are drawn, one after the other.
use Rattle.go_loader.proofs.GeneratedLemmas.{drawn, drawn_after}
use Rattle.go_loader.proofs.generator.draw.Goals as goal

pub returns-clause-edge : goal.returns-clause-edge
returns-clause-edge c = λ x k begun. drawn x c.args.v k _ _ _ _ _ begun c.next_word.ensures c.next_word-2.ensures

pub returns-clause-on : goal.returns-clause-on
returns-clause-on c = λ x k begun. drawn_after x k _ _ _ _ _ begun c.next_word.ensures c.next_word-2.ensures
