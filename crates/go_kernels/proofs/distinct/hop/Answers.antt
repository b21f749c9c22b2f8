-- What is kept once of the neighbours is the hop.
use Rattle.std.proofs.Common.{List, ℕ, subst}
use Rattle.std.specs.Prelude.{Contains, ◌↔◌}
use Rattle.go_kernels.proofs.distinct.hop.Goals as goal

pub returns-clause-exact : goal.returns-clause-exact
returns-clause-exact g c = record {
  rises = c.keep_once.ensures.rises;
  members = λ x. subst (λ (l : List ℕ). Contains c.keep_once.new.list.items x ↔ Contains l x) c.in_ok-neighbours.ensures.listed (c.keep_once.ensures.members x);
}
