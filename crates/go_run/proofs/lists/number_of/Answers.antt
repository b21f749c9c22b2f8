-- A name is known, or its list is read.
use Rattle.std.proofs.Common.{rules, ◌≡◌, ◌∙◌, ℕ, List, Option, None, Some, Ok, Err, sym, subst, length, arith}
use Rattle.go_word.specs.declared.edge.Edge.{Edge}
use Rattle.go_run.specs.Lists.{numbers_in, HoldsLists, RefusesLists}
use Rattle.go_run.proofs.ListLemmas.{lists_known, lists_more, lists_refused, lists_no_memory}
use Rattle.go_run.proofs.lists.number_of.Goals as goal

pub returns-in_err-list-clause-read : goal.returns-in_err-list-clause-read
returns-in_err-list-clause-read g c = λ names numbers holds.
    let e : c.from_residual.result ≡ Err c.in_err-list.field-0.0 = search rules in
    let none : numbers_in c.args.known.now c.args.name.now ≡ None = sym c.number_under.ensures ∙ c.in_default.is in
    rw e (lists_refused c.args.vertices (g.H.Shelf.texts c.args.shelf.now) (numbers_in c.args.known.now) c.args.loads.now.items names numbers c.args.name.now
    c.in_err-list.field-0.0 holds none c.in_err-list.ensures.read)

pub returns-clause-read : goal.returns-clause-read
returns-clause-read g c = λ names numbers holds.
    let none : numbers_in c.args.known.now c.args.name.now ≡ None = sym c.number_under.ensures ∙ c.in_default.is in
    let last : c.in-Ok.number ≡ length c.args.loads.now.items = search rules in
    let x = c.in-Ok.ensures in
    let y = c.len.ensures in
    let items = c.in-Ok-push.ensures.items in
    rw items (lists_more c.args.vertices (g.H.Shelf.texts c.args.shelf.now) (numbers_in c.args.known.now) (numbers_in c.put_number.new.known)
    c.args.loads.now.items names numbers c.args.name.now c.in-Ok.number c.in_ok-list.list holds none c.in_ok-list.ensures.read
    c.in_ok-list.ensures.entries last c.in-Ok-put_number.ensures)
