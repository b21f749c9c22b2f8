-- All numbers below the end rise, and the destinations of the deletions are among them.
use Rattle.std.proofs.Common.{◌≡◌}
use Rattle.std.specs.List.{range_with_len}
use Rattle.std.proofs.lemmas.Result.{IfOk-weaker}
use Rattle.std.specs.List.Sorted.{IsStrictlyIncreasing}
use Rattle.go_net.specs.Tally.{HasTargetsOf}
use Rattle.go_net.proofs.TargetLemmas.{HasTargetsOf-below, rising-below}
use Rattle.go_net.proofs.targets.targets_of.Goals as goal

pub returns-then-end-words-clause-all : goal.returns-then-end-words-clause-all
returns-then-end-words-clause-all c =
    IfOk-weaker c.all_below.result (λ v. v.items ≡ range_with_len 0 c.end_of-end.result) (λ v. HasTargetsOf v.items c.args.words.now)
    (λ v is. rw is (HasTargetsOf-below c.args.words.now c.end_of-end.result c.end_of-end.ensures.above)) c.all_below.ensures

pub returns-then-end-words-clause-rising : goal.returns-then-end-words-clause-rising
returns-then-end-words-clause-rising c =
    IfOk-weaker c.all_below.result (λ v. v.items ≡ range_with_len 0 c.end_of-end.result) (λ v. IsStrictlyIncreasing v.items)
    (λ v is. rw is (rising-below c.end_of-end.result)) c.all_below.ensures
