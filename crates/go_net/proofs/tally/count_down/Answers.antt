-- What `count_down` answers and writes, by the place of its target.
use Rattle.std.proofs.Common.{arith}
use Rattle.std.proofs.lemmas.Bool.Decides.{nat_tests}
use Rattle.go_net.proofs.TallyLemmas.{count_at-place, count_at-absent, count_down_at, count_down_none}
use Rattle.go_net.proofs.tally.count_down.Goals as goal

pub returns-in-Some-clause-any : goal.returns-in-Some-clause-any
returns-in-Some-clause-any c =
    let at = count_at-place c.args.targets.now c.args.counts.now c.args.d c.in-Some.place c.in-Some.ensures c.requires.paired in
    grind (arith, nat_tests, at, c.if-counts-place-gt0.true)

pub returns-in-Some-clause-after : goal.returns-in-Some-clause-after
returns-in-Some-clause-after c = λ x. count_down_at c.args.targets.now c.args.counts.now c.args.d c.in-Some.place x c.in-Some.ensures c.requires.paired

pub returns-in_default-clause-any : goal.returns-in_default-clause-any
returns-in_default-clause-any c =
    let at = count_at-place c.args.targets.now c.args.counts.now c.args.d c.in-Some.place c.in-Some.ensures c.requires.paired in
    grind (arith, nat_tests, at, c.if-counts-place-gt0.false)

pub returns-in_default-clause-after : goal.returns-in_default-clause-after
returns-in_default-clause-after c = λ x.
    let at = count_at-place c.args.targets.now c.args.counts.now c.args.d c.in-Some.place c.in-Some.ensures c.requires.paired in
    count_down_none c.args.targets.now c.args.counts.now c.args.d x (grind (arith, nat_tests, at, c.if-counts-place-gt0.false))

pub returns-in_default-2-clause-any : goal.returns-in_default-2-clause-any
returns-in_default-2-clause-any c =
    let none = count_at-absent c.args.targets.now c.args.counts.now c.args.d c.in_default.ensures in
    grind (arith, nat_tests, none)

pub returns-in_default-2-clause-after : goal.returns-in_default-2-clause-after
returns-in_default-2-clause-after c = λ x. count_down_none c.args.targets.now c.args.counts.now c.args.d x
    (count_at-absent c.args.targets.now c.args.counts.now c.args.d c.in_default.ensures)
