-- `place_of`: the entry that stands there is found, and another is passed.
use Rattle.std.proofs.Common.{◌≡◌, true, false, arith}
use Rattle.std.proofs.lemmas.Bool.Decides.{nat_tests}
use Rattle.go_core.specs.View.{stands_at}
use Rattle.go_core.proofs.ListLemmas.{place_found, place_passed}
use Rattle.go_core.proofs.lists.place_of.Goals as goal

pub returns-then-entry-at-clause-found : goal.returns-then-entry-at-clause-found
returns-then-entry-at-clause-found c =
    let here : stands_at c.args.at c.in-Some.entry.now ≡ true = grind (arith, nat_tests) in
    place_found c.args.at c.args.list.now c.loop-entry.rest c.next.new.self c.loop-entry.place c.in-Some.entry.now c.loop-entry.invariant.0
    c.in-Some.ensures.steps c.loop-entry.invariant.1 here

pub loop-entry-preserved : goal.loop-entry-preserved
loop-entry-preserved c =
    let other : stands_at c.args.at c.in-Some.entry.now ≡ false = grind (arith, nat_tests) in
    place_passed c.args.at c.args.list.now c.loop-entry.rest c.next.new.self c.loop-entry.place c.in-Some.entry.now c.loop-entry.invariant.0
    c.in-Some.ensures.steps c.loop-entry.invariant.1 other
