-- What is sorted and stands once each rises, and has the same members.
use Rattle.std.proofs.Common.{◌≡◌, eqb, subst, sym, List, ℕ}
use Rattle.std.proofs.lemmas.List.Filters.{dedup_is}
use Rattle.std.proofs.lemmas.List.Kept.{Contains-dedup_nat, Contains-from_dedup}
use Rattle.std.proofs.lemmas.List.Sorted.{Contains-permutation, IsPermutation-sym}
use Rattle.std.proofs.lemmas.Map.Keys.{IsStrictlyIncreasing-dedup}
use Rattle.std.specs.List.{dedup}
use Rattle.std.specs.Prelude.{Contains, ◌↔◌}
use Rattle.go_model.proofs.hops.keep_once.Goals as goal

pub returns-clause-rises : goal.returns-clause-rises
returns-clause-rises c =
    let is : c.dedup.new.self.items ≡ dedup eqb c.sort_unstable.new.self.items =
    dedup_is eqb c.sort_unstable.new.self.items c.dedup.new.self.items c.dedup.ensures.filtered in
    rw is (IsStrictlyIncreasing-dedup c.sort_unstable.new.self.items c.sort_unstable.ensures.sorted)

pub returns-clause-members : goal.returns-clause-members
returns-clause-members c =
    let sorted = c.sort_unstable.new.self.items in
    let is : c.dedup.new.self.items ≡ dedup eqb sorted = dedup_is eqb sorted c.dedup.new.self.items c.dedup.ensures.filtered in
    λ x. subst (λ (l : List ℕ). Contains l x ↔ Contains c.args.list.now.items x) (sym is) (
      (λ among. Contains-permutation sorted c.args.list.now.items x (IsPermutation-sym c.args.list.now.items sorted c.sort_unstable.ensures.permutation)
          (Contains-from_dedup eqb sorted x among)),
      (λ among. Contains-dedup_nat sorted x (Contains-permutation c.args.list.now.items sorted x c.sort_unstable.ensures.permutation among)),
    )
