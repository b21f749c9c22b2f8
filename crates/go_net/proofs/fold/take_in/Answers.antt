-- What counts take in comes behind what was taken in by turns; for words of one vertex it is the fold of that vertex.
use Rattle.std.proofs.Common.{arith, ap, ◌∙◌}
use Rattle.std.proofs.lemmas.List.{take_all, take_rest}
use Rattle.go_net.specs.Net.{net_of}
use Rattle.go_net.proofs.WordLemmas.{net_of-of_vertex, taken_on}
use Rattle.go_net.proofs.fold.take_in.Goals as goal

pub returns-in_ok-by_counts-clause-exact : goal.returns-in_ok-by_counts-clause-exact
returns-in_ok-by_counts-clause-exact c = taken_on c.in_ok-taken.taken _ _ _ _ _ c.in_ok-taken.ensures.taken
    (take_rest c.args.words.now c.in_ok-taken.taken) c.in_ok-by_counts.ensures

pub returns-in_ok-by_counts-clause-of_vertex : goal.returns-in_ok-by_counts-clause-of_vertex
returns-in_ok-by_counts-clause-of_vertex c = λ s own. returns-in_ok-by_counts-clause-exact c
    ∙ net_of-of_vertex s c.args.list.now.items c.args.words.now own

pub returns-else-taken-words-clause-of_vertex : goal.returns-else-taken-words-clause-of_vertex
returns-else-taken-words-clause-of_vertex c = λ s own. c.in_ok-taken.ensures.taken
    ∙ ap (net_of c.args.list.now.items) (take_all c.in_ok-taken.taken c.args.words.now (omega (arith, c.if-taken-words.false)))
    ∙ net_of-of_vertex s c.args.list.now.items c.args.words.now own
