-- What `count_up` writes, by the place of its target.
use Rattle.std.proofs.Common.{◌+◌, arith, get_or}
use Rattle.std.proofs.lemmas.Bool.Decides.{nat_tests}
use Rattle.go_net.proofs.TallyLemmas.{count_at-place, count_at-set}
use Rattle.go_net.proofs.tally.count_up.Goals as goal

pub overflow_add-counts : goal.overflow_add-counts
overflow_add-counts c =
    let at = count_at-place c.args.targets.now c.args.counts.now c.args.d c.in-Some.place c.in-Some.ensures c.requires.paired in
    omega arith

pub returns-in-Some-clause-added : goal.returns-in-Some-clause-added
returns-in-Some-clause-added c = λ among.
    let at = count_at-place c.args.targets.now c.args.counts.now c.args.d c.in-Some.place c.in-Some.ensures c.requires.paired in
    let written = count_at-set c.args.targets.now c.args.counts.now c.args.d c.in-Some.place
    (get_or c.args.counts.now c.in-Some.place 0 + 1) c.args.d c.in-Some.ensures c.requires.paired in
    grind (arith, nat_tests, at, written)

pub returns-in-Some-clause-bound : goal.returns-in-Some-clause-bound
returns-in-Some-clause-bound c =
    let at = count_at-place c.args.targets.now c.args.counts.now c.args.d c.in-Some.place c.in-Some.ensures c.requires.paired in
    let written = count_at-set c.args.targets.now c.args.counts.now c.args.d c.in-Some.place
    (get_or c.args.counts.now c.in-Some.place 0 + 1) c.args.d c.in-Some.ensures c.requires.paired in
    grind (arith, nat_tests, at, written)

pub returns-in-Some-clause-others : goal.returns-in-Some-clause-others
returns-in-Some-clause-others c = λ x other.
    let written = count_at-set c.args.targets.now c.args.counts.now c.args.d c.in-Some.place
    (get_or c.args.counts.now c.in-Some.place 0 + 1) x c.in-Some.ensures c.requires.paired in
    grind (arith, nat_tests, written)
