-- A tally goes on with a deletion, by the lemmas.
use Rattle.std.proofs.Common.{◌≡◌, ◌<◌, arith}
use Rattle.std.proofs.lemmas.Bool.Decides.{nat_tests}
use Rattle.go_net.specs.Tally.{count_at}
use Rattle.go_net.proofs.TallyLemmas.{IsTally-delete, IsTally-absent}
use Rattle.go_net.proofs.tally.delete.Goals as goal

pub returns-then-count_down : goal.returns-then-count_down
returns-then-count_down c = λ added list tally.
    let some : 0 < count_at c.args.targets.now c.args.present.now c.args.d = let t = c.if-count_down.ensures.any in grind (arith, nat_tests, t) in
    IsTally-delete c.args.targets.now c.args.present.now c.count_down.new.counts c.args.removed.now c.count_up.new.counts added list c.args.d some
    c.count_down.ensures.after (c.count_up.ensures.added c.requires.target) c.count_up.ensures.others tally

pub returns-else-count_down : goal.returns-else-count_down
returns-else-count_down c = λ added list tally.
    let none : count_at c.args.targets.now c.args.present.now c.args.d ≡ 0 = let t = c.if-count_down.ensures.any in grind (arith, nat_tests, t) in
    IsTally-absent c.args.targets.now c.args.present.now c.count_down.new.counts c.args.removed.now added list c.args.d none c.count_down.ensures.after
    c.requires.target tally
