-- What is left once the targets are sorted and stand once each.
use Rattle.std.proofs.Common.{◌≡◌, arith, eqb}
use Rattle.std.proofs.lemmas.List.Filters.{dedup_is}
use Rattle.std.proofs.lemmas.Map.Keys.{IsStrictlyIncreasing-dedup}
use Rattle.std.specs.List.{dedup}
use Rattle.go_net.proofs.TargetLemmas.{HasTargetsOf-sorted}
use Rattle.go_net.proofs.targets.deleted.Goals as goal

pub returns-clause-all : goal.returns-clause-all
returns-clause-all c =
    let is : c.dedup.new.self.items ≡ dedup eqb c.sort_unstable.new.self.items =
    dedup_is eqb c.sort_unstable.new.self.items c.dedup.new.self.items c.dedup.ensures.filtered in
    HasTargetsOf-sorted c.args.words.now c.loop-word.targets.items c.sort_unstable.new.self.items c.dedup.new.self.items
    (λ k within. c.loop-word.invariant k (omega arith)) c.sort_unstable.ensures.permutation is

pub returns-clause-rising : goal.returns-clause-rising
returns-clause-rising c =
    let is : c.dedup.new.self.items ≡ dedup eqb c.sort_unstable.new.self.items =
    dedup_is eqb c.sort_unstable.new.self.items c.dedup.new.self.items c.dedup.ensures.filtered in
    rw is (IsStrictlyIncreasing-dedup c.sort_unstable.new.self.items c.sort_unstable.ensures.sorted)
