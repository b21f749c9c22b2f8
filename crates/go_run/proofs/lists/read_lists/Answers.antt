-- The lists of each line come behind those of the lines before it.
use Rattle.std.proofs.Common.{rules, ◌≡◌, ◌∙◌, ◌++◌, ◌∷◌, [], ℕ, List, Option, None, Some, Ok, Err, sym, subst, length, take, arith, refl}
use Rattle.go_word.specs.declared.edge.Edge.{Edge}
use Rattle.go_script.specs.Commands.{commands_of}
use Rattle.go_run.specs.Input.{Texts, names_loaded}
use Rattle.go_run.specs.Lists.{numbers_in, HoldsLists, HasLists, RefusesLists}
use Rattle.go_run.proofs.ListLemmas.{lists_start, lists_all, take-all}
use Rattle.go_run.proofs.LoadLineLemmas.{names_of, names_next, lists_line, lists_other, lists_line_refused, not_load}
use Rattle.go_run.proofs.lists.read_lists.Goals.{in-Load+in_ok-number+in-Ok, in_default}
use Rattle.go_run.proofs.lists.read_lists.Goals as goal

pub loop-i-init : goal.loop-i-init
loop-i-init g c =
    let none = λ (name : List ℕ). let it : numbers_in c.new-known.result name ≡ None = rw c.new-known.ensures.empty refl in it in (
      rw (c.requires, c.new-numbers.ensures.items) (lists_start c.args.vertices (g.H.Shelf.texts c.args.shelf.now) (numbers_in c.new-known.result) none),
      refl,
      λ other. omega arith,
    )

pub returns-in_err-number-clause-read : goal.returns-in_err-number-clause-read
returns-in_err-number-clause-read g c =
    let e : c.from_residual.result ≡ Err c.in_err-number.field-0.0 = search rules in
    let v = c.args.vertices in
    let front = names_loaded (take c.loop-i.i c.args.scripts.now) ++ names_of (take c.loop-at.at (commands_of c.index-scripts-i.result)) in
    let holds = subst (λ (t : Option Texts). HoldsLists v t (numbers_in c.loop-at.known) c.loop-at.loads.items front c.loop-at.numbers.items)
    (sym c.loop-at.invariant.1) c.loop-at.invariant.0 in
    let refuses = rw c.get.ensures at c.in_err-number.ensures.read front c.loop-at.numbers.items holds in
    rw e (lists_line_refused v (g.H.Shelf.texts c.args.shelf.now) (g.H.Shelf.texts c.loop-at.shelf) c.args.scripts.now c.loop-i.i c.index-scripts-i.result
    c.loop-at.at c.command.result.now c.in-Load.name c.in_err-number.field-0.0 c.loop-at.invariant.1 c.loop-i-test.true c.index-scripts-i.is
    c.command.ensures.command c.in-Load.is refuses)

pub loop-at-preserved : goal.loop-at-preserved
loop-at-preserved g c = elim c.match-command.branch [
  | in-Load+in_ok-number+in-Ok w ↦
      let v = c.args.vertices in
      let scripts = names_loaded (take c.loop-i.i c.args.scripts.now) in
      let commands = commands_of c.index-scripts-i.result in
      let front = scripts ++ names_of (take c.loop-at.at commands) in
      let holds = subst (λ (t : Option Texts). HoldsLists v t (numbers_in c.loop-at.known) c.loop-at.loads.items front c.loop-at.numbers.items)
      (sym c.loop-at.invariant.1) c.loop-at.invariant.0 in
      let more = rw w.get.ensures at w.in_ok-number.ensures.read front c.loop-at.numbers.items holds in
      let numbers = c.loop-at.numbers.items ++ w.in_ok-number.number ∷ [] in
      let line = lists_line v (g.H.Shelf.texts c.args.shelf.now) (g.H.Shelf.texts c.loop-at.shelf) (numbers_in w.number_of.new.known)
      w.number_of.new.loads.items scripts commands c.loop-at.at c.command.result.now w.in-Load.name numbers c.loop-at.invariant.1
      c.command.ensures.command w.in-Load.is more in (
        rw (w.known-is, w.loads-is, w.numbers-is, w.in-Ok.ensures.items) line,
        rw w.shelf-is (w.number_of.ensures.same ∙ c.loop-at.invariant.1),
        λ other. rw w.shelf-is (omega (arith, c.loop-at.invariant.2 other, w.number_of.ensures.later other)),
      )
  | in_default w ↦
      let commands = commands_of c.index-scripts-i.result in
      let line = lists_other c.args.vertices (g.H.Shelf.texts c.args.shelf.now) (numbers_in c.loop-at.known) c.loop-at.loads.items
      (names_loaded (take c.loop-i.i c.args.scripts.now)) commands c.loop-at.at c.command.result.now c.loop-at.numbers.items
      c.command.ensures.command (not_load c.command.result.now w.in_default.not-Load) c.loop-at.invariant.0 in (
        rw (w.known-is, w.loads-is, w.numbers-is) line,
        rw w.shelf-is c.loop-at.invariant.1,
        λ other. rw w.shelf-is (c.loop-at.invariant.2 other),
      )
]

pub returns-clause-read : goal.returns-clause-read
returns-clause-read g c =
    lists_all c.args.vertices (g.H.Shelf.texts c.args.shelf.now) (numbers_in c.loop-i.known) c.loop-i.loads.items (names_loaded c.args.scripts.now)
    c.loop-i.numbers.items (rw (take-all c.args.scripts.now c.loop-i.i c.loop-i-test.false) at c.loop-i.invariant.0)
