-- The laws of the neighbours: each by its lemma.
use Rattle.std.proofs.Common.{◌∙◌, ap}
use Rattle.go_word.specs.Neighbours.{copies, without_first}
use Rattle.go_word.proofs.NeighbourLaws.{neighbours-entries_from, neighbours-additions, neighbours-deletion, copies-without_first, without_first-earliest}
use Rattle.go_word.proofs.NeighbourLaws.{without_first-absent}
use Rattle.go_word.proofs.laws.neighbours_laws.Goals as goal

pub returns-clause-own_entries : goal.returns-clause-own_entries
returns-clause-own_entries c = λ log s. neighbours-entries_from log s

pub returns-clause-additions : goal.returns-clause-additions
returns-clause-additions c = λ log s adds. neighbours-additions log s adds

pub returns-clause-one_copy : goal.returns-clause-one_copy
returns-clause-one_copy c = λ log e x deletes. ap (copies x) (neighbours-deletion log e deletes) ∙ copies-without_first x e.dst _

pub returns-clause-earliest : goal.returns-clause-earliest
returns-clause-earliest c = λ log e before after deletes split none.
    neighbours-deletion log e deletes ∙ ap (without_first e.dst) split ∙ without_first-earliest e.dst before after none

pub returns-clause-absent : goal.returns-clause-absent
returns-clause-absent c = λ log e deletes none. neighbours-deletion log e deletes ∙ without_first-absent e.dst _ none
