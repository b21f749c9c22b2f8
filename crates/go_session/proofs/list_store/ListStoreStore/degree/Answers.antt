-- How many neighbours the list has.
use Rattle.std.proofs.Common.{◌≡◌, ℕ, List, length, take, arith, sym, subst, ap, ◌∙◌, Ok}
use Rattle.go_word.specs.declared.edge.Edge.{Edge}
use Rattle.go_word.specs.Neighbours.{neighbours}
use Rattle.go_api.specs.Calls.{CanRead, CountsAt}
use Rattle.go_api.specs.Standing.{Standing}
use Rattle.go_session.specs.Listed.{listed, listed_terms}
use Rattle.go_session.proofs.ListedLemmas.{neighbours_few, listed_counts}
use Rattle.go_session.proofs.list_store.ListStoreStore.degree.Goals as goal

pub overflow_cast-result : goal.overflow_cast-result
overflow_cast-result c =
    let few = neighbours_few c.self.inside.log.items c.args.vertex c.in-View.front in
    let same = ap (λ (l : List ℕ). length l) (c.in-Ok.ensures
    ∙ ap (λ (l : List Edge). neighbours (take c.in-View.front l) c.args.vertex) c.deref.ensures.value) in
    omega (arith, few, same, c.len.ensures, c.neighbours_of.new.out.ok.0, c.self.invariant.room)

pub returns-clause-counts : goal.returns-clause-counts
returns-clause-counts c =
    let terms = listed_terms c.self.inside.vertices c.self.inside.ring in
    let here = listed terms c.self.inside.log.items c.self.inside.quota c.self.inside.places in
    let same = ap (λ (l : List ℕ). length l) (c.in-Ok.ensures
    ∙ ap (λ (l : List Edge). neighbours (take c.in-View.front l) c.args.vertex) c.deref.ensures.value) in
    let can = subst (λ (s : Standing). CanRead c.args.place c.args.vertex s) (sym c.self.view_is) c.requires in
    subst (λ (s : Standing). CountsAt c.args.place c.args.vertex (Ok c.len.result) s here) c.self.view_is
    (listed_counts terms c.self.inside.log.items c.self.inside.quota c.self.inside.places c.args.place c.args.vertex c.in-View.front c.len.result can
    c.in-View.is (omega (arith, same, c.len.ensures, c.neighbours_of.new.out.ok.0)))
